use Rattle.std.proofs.Common.{◌∙◌, ap}
use Rattle.reuse_change.specs.Path.{lies_under}
use Rattle.reuse_tree.proofs.EntryPaths.{folder_among, no_folder_among}
use Rattle.reuse_tree.proofs.journal.entry_checks.has_file_under.Goals as goal

pub returns-then-start-later : goal.returns-then-start-later
returns-then-start-later c =
    no_folder_among c.args.folder.now c.args.later.now c.first_inside-start.result c.requires
    c.first_inside-start.ensures.point c.first_inside-start.ensures.bound c.if-start-later.true

pub returns : goal.returns
returns c =
    folder_among c.args.folder.now c.args.later.now c.first_inside-start.result c.index-later-start.result
    c.lies_under.result c.requires c.first_inside-start.ensures.point c.if-start-later.false c.index-later-start.is
    (c.lies_under.ensures ∙ ap (λ p. lies_under p c.args.folder.now) c.path.ensures)
