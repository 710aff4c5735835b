use Rattle.std.proofs.Common.{◌≡◌, true, [], Ok, Err, refl, sym, subst}
use Rattle.reuse_change.specs.Tree.{is_of_tree}
use Rattle.reuse_command.specs.Reading.{get, tree_of}
use Rattle.reuse_edit.specs.PathEdits.{or_first}
use Rattle.reuse_edit.specs.Answered.{AnswersEdit, MakesEdits}
use Rattle.reuse_plan.specs.StyleEdits.{lines_edit}
use Rattle.reuse_plan.specs.TreeStyles.{comments_path, styles_path}
use Rattle.reuse_plan.proofs.StyleAdding.{both_made, first_refused, lines_at, second_refused}
use Rattle.reuse_plan.proofs.add_styles.changes_for.Goals as goal

pub returns-in-Err-clause-edits : goal.returns-in-Err-clause-edits
returns-in-Err-clause-edits g c honest own =
    let tree = tree_of (g.S.Store.files c.args.store.now) in
    let added = c.args.added in
    first_refused (lines_edit tree comments_path (get tree comments_path) added.comments)
    (or_first (lines_edit tree styles_path (get tree styles_path) added.styles) (Ok [])) c.in-Err.refusal
    (lines_at tree comments_path c.in_ok-comments_path.comments_path c.args.own.now.comments_file added.comments
    (Err c.in-Err.refusal) c.in_ok-comments_path.ensures own.comments_file (c.in-Err.ensures.edit honest) refl)

pub returns-in_ok-listed-in-Ok-lines_change-clause-edits : goal.returns-in_ok-listed-in-Ok-lines_change-clause-edits
returns-in_ok-listed-in-Ok-lines_change-clause-edits g c honest own =
    let files = g.S.Store.files c.args.store.now in
    let tree = tree_of files in
    let added = c.args.added in
    let mid = c.in-Ok-lines_change.ensures.asks.reads.was_honest honest in
    let same = c.in-Ok.ensures.asks.reads.files mid in
    let one = lines_edit tree comments_path (get tree comments_path) added.comments in
    let two = lines_edit tree styles_path (get tree styles_path) added.styles in
    subst (MakesEdits tree (or_first one (or_first two (Ok [])))) (sym c.in_ok-listed-in-Ok-lines_change.ensures)
    (both_made tree one two c.in-Ok.first c.in-Ok-lines_change.second
    (lines_at tree comments_path c.in_ok-comments_path.comments_path c.args.own.now.comments_file added.comments
    (Ok c.in-Ok.first) c.in_ok-comments_path.ensures own.comments_file (c.in-Ok.ensures.edit mid) refl)
    (lines_at tree styles_path c.in_ok-styles_path.styles_path c.args.own.now.styles added.styles
    (Ok c.in-Ok-lines_change.second) c.in_ok-styles_path.ensures own.styles
    (subst (λ fs. is_of_tree c.in_ok-styles_path.styles_path ≡ true
    → get (tree_of fs) c.in_ok-styles_path.styles_path ≡ c.args.own.now.styles
    → AnswersEdit (tree_of fs)
    (lines_edit (tree_of fs) c.in_ok-styles_path.styles_path c.args.own.now.styles added.styles)
    (Ok c.in-Ok-lines_change.second)) same (c.in-Ok-lines_change.ensures.edit honest)) refl))

pub returns-in-Err-lines_change-clause-edits : goal.returns-in-Err-lines_change-clause-edits
returns-in-Err-lines_change-clause-edits g c honest own =
    let files = g.S.Store.files c.args.store.now in
    let tree = tree_of files in
    let added = c.args.added in
    let mid = c.in-Err-lines_change.ensures.asks.reads.was_honest honest in
    let same = c.in-Ok.ensures.asks.reads.files mid in
    second_refused tree (lines_edit tree comments_path (get tree comments_path) added.comments)
    (lines_edit tree styles_path (get tree styles_path) added.styles) c.in-Ok.first c.in-Err-lines_change.refusal
    (lines_at tree comments_path c.in_ok-comments_path.comments_path c.args.own.now.comments_file added.comments
    (Ok c.in-Ok.first) c.in_ok-comments_path.ensures own.comments_file (c.in-Ok.ensures.edit mid) refl)
    (lines_at tree styles_path c.in_ok-styles_path.styles_path c.args.own.now.styles added.styles
    (Err c.in-Err-lines_change.refusal) c.in_ok-styles_path.ensures own.styles
    (subst (λ fs. is_of_tree c.in_ok-styles_path.styles_path ≡ true
    → get (tree_of fs) c.in_ok-styles_path.styles_path ≡ c.args.own.now.styles
    → AnswersEdit (tree_of fs)
    (lines_edit (tree_of fs) c.in_ok-styles_path.styles_path c.args.own.now.styles added.styles)
    (Err c.in-Err-lines_change.refusal)) same (c.in-Err-lines_change.ensures.edit honest)) refl)
