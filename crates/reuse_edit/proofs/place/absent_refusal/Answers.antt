use Rattle.std.proofs.Common.{◌∙◌, sym, ap, true, false, Err}
use Rattle.reuse_command.specs.declared.reply.Refusal.TheVariants as refusals
use Rattle.reuse_command.specs.declared.command.Place.TheVariants as place
use Rattle.reuse_edit.proofs.AbsentFiles.{absent_answer, absent_amended}
use Rattle.reuse_edit.proofs.place.absent_refusal.Goals as goal

pub returns-then-branch-clause-annotated : goal.returns-then-branch-clause-annotated
returns-then-branch-clause-annotated c how scope additions own tree are none =
    absent_answer tree c.args.path.now c.args.paths.now are how scope additions own true none
    (sym (c.in_ok-is_folder.ensures are.ordered) ∙ c.if-branch.true)
    ∙ ap (λ p. Err (refusals.IsFolder (place.Path p))) (sym c.in_ok-refused.ensures)

pub returns-else-branch-clause-annotated : goal.returns-else-branch-clause-annotated
returns-else-branch-clause-annotated c how scope additions own tree are none =
    absent_answer tree c.args.path.now c.args.paths.now are how scope additions own false none
    (sym (c.in_ok-is_folder.ensures are.ordered) ∙ c.if-branch.false)
    ∙ ap (λ p. Err (refusals.NoSuchPath p)) (sym c.in_ok-refused.ensures)

pub returns-then-branch-clause-amended : goal.returns-then-branch-clause-amended
returns-then-branch-clause-amended c amendment scope own tree are none =
    absent_amended tree c.args.path.now c.args.paths.now are amendment scope own true none
    (sym (c.in_ok-is_folder.ensures are.ordered) ∙ c.if-branch.true)
    ∙ ap (λ p. Err (refusals.IsFolder (place.Path p))) (sym c.in_ok-refused.ensures)

pub returns-else-branch-clause-amended : goal.returns-else-branch-clause-amended
returns-else-branch-clause-amended c amendment scope own tree are none =
    absent_amended tree c.args.path.now c.args.paths.now are amendment scope own false none
    (sym (c.in_ok-is_folder.ensures are.ordered) ∙ c.if-branch.false)
    ∙ ap (λ p. Err (refusals.NoSuchPath p)) (sym c.in_ok-refused.ensures)
