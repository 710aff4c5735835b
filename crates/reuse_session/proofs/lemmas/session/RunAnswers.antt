-- What a run answers.
use Rattle.std.proofs.Common.{◌≡◌, ◌<◌, ℕ, List, [], ◌∷◌, length, Result, Ok, Err, IfOk, IfErr, sym, subst, arith}
use Rattle.reuse_change.specs.declared.change.Change.{Change}
use Rattle.reuse_command.specs.Answer.{IsFailure, IsOfPlan, IsRunAnswer, LeavesNone}
use Rattle.reuse_change.specs.Entry.{paths_of}
use Rattle.reuse_command.specs.declared.reply.Response.{Response}
use Rattle.reuse_command.specs.declared.reply.Response.TheVariants.{Changed}
use Rattle.reuse_command.specs.declared.reply.Refusal.{Refusal}
use Rattle.reuse_command.specs.declared.reply.Refusal.TheVariants.{NothingToUndo, NothingToRedo, NoSuchStep, BadJournal}

-- a refusal of the plan
pub planned_answer : (refusal : Refusal) → IsOfPlan refusal → IsRunAnswer (Err refusal)
planned_answer NothingToUndo of = of
planned_answer NothingToRedo of = of
planned_answer (NoSuchStep number) of = of
planned_answer (BadJournal path) of = of
planned_answer refusal of = tt

failed_answer : (refusal : Refusal) → IsFailure refusal → IsRunAnswer (Err refusal)
failed_answer NothingToUndo is = is
failed_answer NothingToRedo is = is
failed_answer (NoSuchStep number) is = is
failed_answer (BadJournal path) is = is
failed_answer refusal is = tt

changed_answer : (changes : List Change) (left : List (List ℕ)) → 0 < length changes
    → IsRunAnswer (Ok (Changed (paths_of changes) left))
changed_answer [] left some = absurd (omega (arith, some))
changed_answer (change ∷ changes) left some = tt

-- the step
pub step_answer : (changes : List Change) (left : List (List ℕ)) → 0 < length changes
    → (result : Result Response Refusal)
    → IfOk result (λ reply. reply ≡ Changed (paths_of changes) left) → IfErr result IsFailure → IsRunAnswer result
step_answer changes left some (Ok reply) changed fails =
    subst (λ (r : Response). IsRunAnswer (Ok r)) (sym changed) (changed_answer changes left some)
step_answer changes left some (Err refusal) changed fails = failed_answer refusal fails

-- a step that leaves no path
pub step_leaves_none : (changes : List Change) (left : List (List ℕ)) → left ≡ [] → (result : Result Response Refusal)
    → IfOk result (λ reply. reply ≡ Changed (paths_of changes) left) → LeavesNone result
step_leaves_none changes left none (Ok reply) changed =
    subst (λ (r : Response). LeavesNone (Ok r)) (sym changed) none
step_leaves_none changes left none (Err refusal) changed = tt
