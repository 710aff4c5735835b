use Rattle.std.proofs.Common.{◌∙◌, Some, sym, ap₂, subst, bytes_eq}
use Rattle.std.proofs.lemmas.Bool.{not-false}
use Rattle.reuse_change.specs.declared.change.Change.{Change}
use Rattle.reuse_change.specs.declared.change.Change.TheVariants.{Make}
use Rattle.reuse_edit.specs.Answered.{MakesEdit}
use Rattle.reuse_plan.specs.Reverting.{taken_back}
use Rattle.reuse_plan.proofs.RevertPlanning.{found, drop_makes}
use Rattle.reuse_plan.proofs.revert.drop_made.Goals as goal

pub returns : goal.returns
returns c tree after here short =
    subst (λ (x : Change). MakesEdit tree (found
    (taken_back (Make c.args.path.now c.args.new.now after) (Some c.args.file))) (Some x)) (sym c.sealed_drop.ensures)
    (drop_makes tree c.args.path.now c.args.file c.args.new.now after c.in_ok-try_clone.field-0
    c.in_ok-try_clone.ensures here short
    (ap₂ bytes_eq (sym c.as_slice.ensures) (sym c.as_slice-2.ensures) ∙ not-false _ (sym c.ne.ensures ∙ c.if-ne.false)))
