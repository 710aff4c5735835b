use Rattle.std.proofs.Common.{◌∙◌, ap, length, drop}
use Rattle.std.specs.Ordering.{is_lt}
use Rattle.reuse_tree.proofs.EntryPaths.{begun, not_begun, inside_apart, inside_short, inside_long}
use Rattle.reuse_tree.proofs.journal.entry_checks.is_before_inside.Goals as goal

pub returns-then-not-starts_with : goal.returns-then-not-starts_with
returns-then-not-starts_with c =
    let path = c.args.path.now in
    let folder = c.args.folder.now in
    c.is_below.ensures ∙ ap is_lt (inside_apart path folder
    (not_begun folder path c.starts_with.result c.starts_with.ensures.value c.if-not-starts_with.true))

pub returns-then-path-folder : goal.returns-then-path-folder
returns-then-path-folder c =
    let path = c.args.path.now in
    let folder = c.args.folder.now in
    inside_short path folder (drop (length folder) path) (begun folder path c.starts_with.result
    c.starts_with.ensures.value c.if-not-starts_with.false) c.if-path-folder.true

pub returns : goal.returns
returns c =
    let path = c.args.path.now in
    let folder = c.args.folder.now in
    inside_long path folder (drop (length folder) path) (begun folder path c.starts_with.result
    c.starts_with.ensures.value c.if-not-starts_with.false) c.if-path-folder.false
