-- What the plans of paths are, by what is done there.
use Rattle.std.specs.Prelude.{◌≡◌, true, false, List, [], ◌∷◌, Some, None, Result, Ok, Err}
use Rattle.std.specs.declared.vec.Vec.{Vec}
use Rattle.reuse_change.specs.Files.{Files}
use Rattle.reuse_change.specs.declared.change.Change.{Change}
use Rattle.reuse_command.specs.Answer.{IsEarlyFailure, IsOfPlan, IsNoFailure}
use Rattle.reuse_edit.specs.Edit.{Edit}
use Rattle.reuse_edit.specs.PathEdits.{PathEdit, edits_in}
use Rattle.reuse_edit.specs.Answered.{CarriesOutEdit, IsRefusalOf, MakesEdit}
use Rattle.reuse_edit.specs.declared.path_plan.PathPlan.{PathPlan}
use Rattle.reuse_edit.specs.declared.path_plan.PathPlan.TheVariants as plan
use Rattle.reuse_edit.specs.declared.path_plan.Policy.{Policy}
use Rattle.reuse_edit.specs.declared.path_plan.Policy.TheVariants.{Stop, Collect}
use Rattle.reuse_command.specs.declared.reply.Refusal.{Refusal}

-- ---- by what is done

-- the plan is of what is done at the path; a walk that ends at the first refusal has no plan of one
abbrev pub IsPlanOf : Policy → Files → PathEdit → PathPlan → Type 0
IsPlanOf policy tree here (plan.Change change harm) =
    (edit : Edit) × (here.edit ≡ Ok (Some edit)) × CarriesOutEdit tree change edit × (harm ≡ here.harm)
    × (here.left ≡ false)
IsPlanOf policy tree here (plan.Unchanged path) =
    (path ≡ here.path) × (here.edit ≡ Ok None) × (here.skipped ≡ false) × (here.left ≡ false)
IsPlanOf policy tree here (plan.Left path change) =
    (path ≡ here.path) × MakesEdit tree here.edit change × (here.skipped ≡ false) × (here.left ≡ true)
    × (here.harm ≡ None)
IsPlanOf policy tree here (plan.Skipped path) =
    (path ≡ here.path) × (here.edit ≡ Ok None) × (here.skipped ≡ true) × (here.left ≡ false)
IsPlanOf policy tree here (plan.Refused refusal) = (here.edit ≡ Err refusal) × IsNoFailure refusal × (policy ≡ Collect)

-- that the path changes so, with no new header in it
abbrev pub plain_change : Change → PathPlan
plain_change change = plan.Change change None

-- one plan for each path, in their order
abbrev pub ArePlansOf : Policy → Files → List PathEdit → List PathPlan → Type 0
ArePlansOf policy tree [] [] = Unit {0}
ArePlansOf policy tree (here ∷ rest) (plan ∷ plans) = IsPlanOf policy tree here plan × ArePlansOf policy tree rest plans
ArePlansOf policy tree [] (plan ∷ plans) = ⊥
ArePlansOf policy tree (here ∷ rest) [] = ⊥

-- the plan of a path, or its refusal
abbrev pub AnswersPlan : Policy → Files → PathEdit → Result PathPlan Refusal → Type 0
AnswersPlan policy tree here (Ok plan) = IsPlanOf policy tree here plan
AnswersPlan policy tree here (Err refusal) = IsRefusalOf here.edit refusal

-- the plans of all paths, or the first refusal
abbrev pub AnswersPlans : {A : Type 0} → Policy → Files → List PathEdit → Result (Vec PathPlan A) Refusal → Type 0
AnswersPlans policy tree all (Ok plans) = ArePlansOf policy tree all plans.items
AnswersPlans policy tree all (Err refusal) = IsRefusalOf (edits_in all) refusal

-- what a walk ends at: any refusal, or a failure alone
abbrev pub EndsWalk : Policy → Refusal → Type 0
EndsWalk Stop refusal = IsOfPlan refusal
EndsWalk Collect refusal = IsEarlyFailure refusal
