-- Plans of paths, by the edits that are made or the refusal.
use Rattle.std.proofs.Common.{◌≡◌, List, [], ◌∷◌, map, Result, Ok, Err, refl, sym, ap, subst, ◌⊎◌, inl, inr, IfOk}
use Rattle.std.proofs.Common.{IfErr, Vec}
use Rattle.reuse_change.specs.Files.{Files}
use Rattle.reuse_edit.specs.Edit.{Edit}
use Rattle.reuse_edit.specs.PathEdits.{PathEdit, edits_in, edited_at, refused_alone, all_or_none}
use Rattle.reuse_command.specs.declared.reply.Refusal.{Refusal}
use Rattle.reuse_command.specs.declared.reply.Refusal.TheVariants as refusals
use Rattle.reuse_change.specs.declared.change.Change.{Change}
use Rattle.reuse_edit.specs.PathPlans.{ArePlansOf, AnswersPlans, plain_change}
use Rattle.reuse_command.specs.Answer.{IsNoFailure}
use Rattle.reuse_edit.specs.Answered.{MakesEach, MakesEdits, IsRefusalOf}
use Rattle.reuse_edit.specs.declared.path_plan.PathPlan.{PathPlan}
use Rattle.reuse_edit.specs.declared.path_plan.Policy.{Policy}
use Rattle.reuse_command.specs.declared.failure.Failure.TheVariants as failures

-- ---- refusals

pub is_refusal_of : {A : Type 0} (given : Result A Refusal) (refusal : Refusal) → given ≡ Err refusal
    → IsRefusalOf given refusal
is_refusal_of given (refusals.Failed failures.Memory) e = tt
is_refusal_of given (refusals.Failed (failures.Fault fault)) e = tt
is_refusal_of given refusal e = e

-- a refusal that is reported is that of the outcome
pub reported_is : {A : Type 0} (given : Result A Refusal) (refusal : Refusal) → IsNoFailure refusal
    → IsRefusalOf given refusal → given ≡ Err refusal
reported_is given (refusals.Failed failure) reported is = absurd reported
reported_is given refusal reported is = is

-- a refusal alone, which reports another result
pub alone_as : {A B : Type 0} (policy : Policy) (tree : Files) (given : Result A Refusal) (all : List PathEdit)
    (refusal : Refusal) (result : Result (Vec PathPlan B) Refusal) → IsRefusalOf given refusal
    → (given ≡ Err refusal → all ≡ refused_alone refusal) → IfOk result (λ plans. IsNoFailure refusal)
    → IfErr result (λ ended. (ended ≡ refusals.Failed failures.Memory) ⊎ (ended ≡ refusal))
    → AnswersPlans policy tree (refused_alone refusal) result → AnswersPlans policy tree all result
alone_as policy tree given all refusal (Ok plans) is alone reported same answers =
    subst (λ es. ArePlansOf policy tree es plans.items) (sym (alone (reported_is given refusal reported is))) answers
alone_as policy tree given all refusal (Err ended) is alone reported (inl memory) answers =
    subst (IsRefusalOf (edits_in all)) (sym memory) tt
alone_as policy tree given all refusal (Err ended) is alone reported (inr same) answers =
    subst (IsRefusalOf (edits_in all)) (sym same) (passes refusal alone is)
  where
    passes : (r : Refusal) → (given ≡ Err r → all ≡ refused_alone r) → IsRefusalOf given r
        → IsRefusalOf (edits_in all) r
    passes (refusals.Failed failures.Memory) k e = tt
    passes (refusals.Failed (failures.Fault fault)) k e = tt
    passes r k e = ap edits_in (k e)

-- ---- changes together

pub all_are : (policy : Policy) (tree : Files) (changes : List Change) (edits : List Edit)
    → MakesEach tree changes edits → ArePlansOf policy tree (map edited_at edits) (map plain_change changes)
all_are policy tree [] [] each = tt
all_are policy tree (c ∷ changes) (e ∷ edits) each =
    ((e, refl, each.0, refl, refl), all_are policy tree changes edits each.1)
all_are policy tree changes edits each = absurd each

pub all_made : (policy : Policy) (tree : Files) (given : Result (List Edit) Refusal) (changes : List Change)
    → MakesEdits tree given changes → ArePlansOf policy tree (all_or_none given) (map plain_change changes)
all_made policy tree given changes made = subst (λ g. ArePlansOf policy tree (all_or_none g) (map plain_change changes))
    (sym made.1) (all_are policy tree changes made.0 made.2)
