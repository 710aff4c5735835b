-- What of a choice came to nothing.
use Rattle.std.proofs.Common.{◌≡◌, ℕ, Bool, true, false, not, ◌&&◌, List, [], Result, Ok, Err, IfOk, OnOk, refl, sym}
use Rattle.std.proofs.Common.{subst}
use Rattle.std.proofs.lemmas.Bool.{false≢true}
use Rattle.reuse_change.specs.Files.{Files}
use Rattle.reuse_command.specs.Command.{has_root}
use Rattle.reuse_edit.specs.Answered.{IsRefusalOf}
use Rattle.reuse_command.specs.Answer.{IsNoFailure}
use Rattle.reuse_style.specs.Kinds.{OwnKinds}
use Rattle.reuse_plan.specs.Unused.{AreUnusedAt, AreUnusedIf, AreUnusedWhere}
use Rattle.reuse_command.specs.declared.command.Place.{Place}
use Rattle.reuse_command.specs.declared.command.Scope.{Scope}
use Rattle.reuse_edit.specs.declared.path_plan.Policy.{Policy}
use Rattle.reuse_command.specs.declared.reply.Refusal.{Refusal}
use Rattle.reuse_plan.specs.declared.unused.Unused.{Unused}
use Rattle.reuse_edit.proofs.PathPlanLemmas.{reported_is}

-- where the root is given and refused, folders aren't gone through
pub not_recursive : (scope : Scope) (places : List Place) → (not scope.recursive && has_root places) ≡ true
    → scope.recursive ≡ false
not_recursive scope places given = by_flag scope.recursive given
  where
    by_flag : (b : Bool) → (not b && has_root places) ≡ true → b ≡ false
    by_flag true is = absurd (false≢true is)
    by_flag false is = refl

-- nothing is chosen then
pub unused_none : (works_on : List ℕ → Bool) (scope : Scope) (places : List Place) (tree : Files) (unused : Unused)
    → scope.recursive ≡ false → unused.names ≡ 0 → unused.globs.items ≡ []
    → AreUnusedAt works_on scope places tree unused
unused_none works_on scope places tree unused alone names globs =
    subst (λ b. AreUnusedWhere b works_on scope places tree unused) (sym alone) (names, globs)

-- where the tree's styles are refused, and a walk that goes on reports that, nothing is promised
pub refused_unused : {A : Type 0} (policy : Policy) (styles : Result OwnKinds Refusal) (refusal : Refusal)
    (works_on : List ℕ → Bool) (scope : Scope) (places : List Place) (tree : Files) (unused : Unused)
    (result : Result A Refusal)
    → IsRefusalOf styles refusal → IfOk result (λ plans. IsNoFailure refusal)
    → OnOk result (AreUnusedIf styles works_on scope places tree unused)
refused_unused policy styles refusal works_on scope places tree unused (Err ended) is reported = tt
refused_unused policy styles refusal works_on scope places tree unused (Ok plans) is reported =
    subst (λ s. AreUnusedIf s works_on scope places tree unused) (sym (reported_is styles refusal reported is)) tt
