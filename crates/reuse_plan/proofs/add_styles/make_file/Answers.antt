use Rattle.std.proofs.Common.{◌∙◌, None, Some, sym, subst, arith}
use Rattle.reuse_command.specs.Reading.{tree_of}
use Rattle.reuse_edit.specs.Answered.{MakesEdit}
use Rattle.reuse_plan.specs.StyleEdits.{file_with}
use Rattle.reuse_edit.proofs.AtTree.{clash_of_tree}
use Rattle.reuse_plan.proofs.StyleAdding.{new_clashes, new_made}
use Rattle.reuse_plan.proofs.add_styles.make_file.Goals as goal

pub returns-then-branch-clause-edit : goal.returns-then-branch-clause-edit
returns-then-branch-clause-edit g c honest of_tree none =
    let files = g.S.Store.files c.args.store.now in
    new_clashes (tree_of files) c.args.path c.args.lines (omega (arith, c.if-len-gt-LONGEST_FILE.false, c.len.ensures))
    (sym (clash_of_tree files c.args.path of_tree) ∙ sym (c.in_ok-is_clash_at.ensures.clash honest) ∙ c.if-branch.true)

pub returns-clause-edit : goal.returns-clause-edit
returns-clause-edit g c honest of_tree none =
    let files = g.S.Store.files c.args.store.now in
    subst (λ change. MakesEdit (tree_of files) (file_with (tree_of files) c.args.path None c.args.lines) (Some change))
    (sym c.sealed_make.ensures)
    (new_made (tree_of files) c.args.path c.args.lines (omega (arith, c.if-len-gt-LONGEST_FILE.false, c.len.ensures)) none
    (sym (clash_of_tree files c.args.path of_tree) ∙ sym (c.in_ok-is_clash_at.ensures.clash honest)
    ∙ c.if-branch.false))
