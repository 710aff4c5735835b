-- The names that are found on a store that hands each call on to one inside it are found on that one.
use Rattle.std.proofs.Common.{◌≡◌, ◌<◌, Result, sym, subst, arith}
use Rattle.std.specs.Prelude.{IfErr}
use Rattle.std.specs.declared.vec.Vec.{Vec}
use Rattle.reuse_store.specs.declared.store.Store.{Ghosts}
use Rattle.reuse_command.specs.Answer.{HasCause}
use Rattle.reuse_command.specs.declared.reply.Refusal.{Refusal}
use Rattle.reuse_command.specs.declared.request.Request.{Request}
use Rattle.reuse_journal.specs.CommittedState.{IsCommittedState}
use Rattle.reuse_ready.specs.declared.name_count.NameCount.{NameCount}
use Rattle.reuse_undo.specs.run.FoundNames.{FindsNames}
use Rattle.reuse_undo.specs.run.RunLine.{RequestLeaves}
use Rattle.reuse_undo.proofs.lemmas.run.CarriedInside.{IsSameStore, reads_inside}
use Rattle.reuse_undo.proofs.lemmas.run.SafeCalls.{found_alike}

same_found : {W S A : Type 0} (outer : Ghosts W) (inner : Ghosts S) (request : Request) (before after : W) (old new : S)
    (found : Result (Vec NameCount A) Refusal) → IsSameStore outer inner before old → IsSameStore outer inner after new
    → FindsNames outer request before after found → FindsNames inner request old new found
same_found outer inner request before after old new found b a finds =
    record {
      exact = λ honest.
          let at = finds.exact (a.gives honest) in (
            at.0,
            subst (λ f. RequestLeaves f request at.0 (inner.files new)) b.files
                (subst (λ f. RequestLeaves (outer.files before) request at.0 f) a.files at.1),
            at.2,
          );
      survives = λ honest start from.
          let at = finds.survives (a.gives honest) start
          (found_alike inner outer old before b.files b.takes_left start.state start.next start.forgetting from) in (
            at.0,
            at.1,
            at.2,
            at.3,
            found_alike outer inner after new (sym a.files) a.gives_left (at.0).state (at.0).next
                (at.0).forgetting at.4,
          );
      reads_only = λ honest look held committed.
          reads_inside outer inner before after old new b a (finds.reads_only (a.gives honest) look held
          (subst (λ f. IsCommittedState f held) (sym b.files) committed));
      fault =
          let at = finds.fault in (
            at.0,
            at.1,
            subst (λ n. IfErr at.0 (HasCause (inner.failures old < n))) a.failures
                (subst (λ n. IfErr at.0 (HasCause (n < outer.failures after))) b.failures at.2),
          );
      failures = omega (arith, finds.failures, b.failures, a.failures);
      was_honest = λ honest. b.takes (finds.was_honest (a.gives honest));
    }

-- where each whole store is as the one inside it
pub found_inside : {W S A : Type 0} (outer : Ghosts W) (inner : Ghosts S) (request : Request) (before after : W)
    (old new : S) (found : Result (Vec NameCount A) Refusal) → FindsNames outer request before after found
    → (inside : W → S) → ((whole : W) → IsSameStore outer inner whole (inside whole)) → inside before ≡ old
    → inside after ≡ new → FindsNames inner request old new found
found_inside outer inner request before after old new found finds inside same was is =
    same_found outer inner request before after old new found
    (subst (IsSameStore outer inner before) was (same before))
    (subst (IsSameStore outer inner after) is (same after)) finds
