-- What is carried out on a store that hands each call on to one inside it is carried out on that one.
use Rattle.std.proofs.Common.{◌≡◌, ◌∙◌, ◌<◌, ℕ, Bool, List, Result, Ok, Err, sym, subst, arith}
use Rattle.reuse_store.specs.Asked.{OnlyReads}
use Rattle.reuse_change.specs.Files.{Files}
use Rattle.reuse_store.specs.declared.store.Store.{Ghosts}
use Rattle.reuse_command.specs.Answer.{HasCause}
use Rattle.reuse_journal.specs.CommittedState.{IsCommittedState}
use Rattle.reuse_session.specs.session.Found.{AllAreAtSome, IsAfterLoss}
use Rattle.reuse_session.specs.session.Stops.{RunState, SimulatesInFiles, FilesAt}
use Rattle.reuse_command.specs.declared.reply.Refusal.{Refusal}
use Rattle.reuse_undo.specs.run.AfterStops.{AnswersAfterStop}
use Rattle.reuse_undo.specs.run.RunResult.{CarriesOut}
use Rattle.reuse_session.specs.session.Requests.{HasCallClash}
use Rattle.reuse_undo.specs.run.RunLine.{RequestLeaves, FollowsModel, ReportsAnswer, IfRefused}
use Rattle.reuse_report.specs.WriterFaults.{IfNoDiff, IsUndrawn}
use Rattle.reuse_print.specs.declared.fault.Fault.{Fault}
use Rattle.reuse_print.specs.declared.fault.Fault.TheVariants as faults
use Rattle.reuse_arguments.specs.declared.line.PrintOptions.{PrintOptions}
use Rattle.reuse_command.specs.declared.request.Request.{Request}
use Rattle.reuse_undo.proofs.lemmas.run.LossesInTurn.{reports_also}
use Rattle.reuse_undo.proofs.lemmas.run.SafeCalls.{found_alike}

-- the one holds what the other holds, a loss of power leaves the same, and they count and are honest alike
pub record IsSameStore {W S : Type 0} (outer : Ghosts W) (inner : Ghosts S) (whole : W) (inside : S) : Type 0 where
  pub files : outer.files whole ≡ inner.files inside
  pub failures : outer.failures whole ≡ inner.failures inside
  pub written : outer.written whole ≡ inner.written inside
  pub mutations : outer.mutations whole ≡ inner.mutations inside
  pub gives : inner.honest inside → outer.honest whole
  pub takes : outer.honest whole → inner.honest inside
  pub gives_left : (left : Files) → inner.crash_states inside left → outer.crash_states whole left
  pub takes_left : (left : Files) → outer.crash_states whole left → inner.crash_states inside left

pub reads_inside : {W S : Type 0} (outer : Ghosts W) (inner : Ghosts S) (before after : W) (old new : S)
    → IsSameStore outer inner before old → IsSameStore outer inner after new
    → OnlyReads outer before after → OnlyReads inner old new
reads_inside outer inner before after old new b a reads =
    record {
      was_honest = λ honest. b.takes (reads.was_honest (a.gives honest));
      files = λ honest. sym a.files ∙ reads.files (a.gives honest) ∙ b.files;
      may = λ left is. b.takes_left left (reads.may left (a.gives_left left is));
      failures = omega (arith, reads.failures, b.failures, a.failures);
      written = sym a.written ∙ reads.written ∙ b.written;
      mutations = sym a.mutations ∙ reads.mutations ∙ b.mutations;
    }

undrawn_inside : {W S : Type 0} (outer : Ghosts W) (inner : Ghosts S) (before after : W) (old new : S)
    → IsSameStore outer inner before old → IsSameStore outer inner after new
    → (refusal : Refusal) → IsUndrawn outer before after refusal → IsUndrawn inner old new refusal
undrawn_inside outer inner before after old new b a refusal is =
    record {
      device = λ e. let rose = is.device e in omega (arith, rose, b.failures, a.failures);
      clash = λ honest. is.clash (a.gives honest);
      kind = λ honest. is.kind (a.gives honest);
    }

no_diff_as : {T : Type 0} (P Q : Refusal → Type 0) (Same : Type 0) (result : Result T Fault)
    → ((refusal : Refusal) → P refusal → Q refusal) → IfNoDiff result (λ refusal. P refusal × Same)
    → IfNoDiff result (λ refusal. Q refusal × Same)
no_diff_as P Q Same (Ok value) also is = tt
no_diff_as P Q Same (Err (faults.NoDiff refusal)) also is = (also refusal is.0, is.1)
no_diff_as P Q Same (Err fault) also is = tt

rose_inside : {T : Type 0} (result : Result T Fault) (a b c d : ℕ) → a ≡ c → b ≡ d → IfRefused result (HasCause (a < b))
    → IfRefused result (HasCause (c < d))
rose_inside result a b c d old new reported =
    subst (λ n. IfRefused result (HasCause (c < n))) new (subst (λ n. IfRefused result (HasCause (n < b))) old reported)

same_inside : {W S O : Type 0} (outer : Ghosts W) (inner : Ghosts S) (contents : O → List ℕ) (has_failed : O → Bool)
    (request : Request) (options : PrintOptions)
    (before after : W) (old new : S) (out left : O) (result : Result ℕ Fault) → IsSameStore outer inner before old
    → IsSameStore outer inner after new
    → CarriesOut outer contents has_failed request options before after out left result
    → CarriesOut inner contents has_failed request options old new out left result
same_inside outer inner contents has_failed request options before after old new out left result b a carried =
    record {
      exact = λ honest.
          subst (λ f. ReportsAnswer options (λ answer. RequestLeaves f request answer (inner.files new)) (contents out)
          (contents left) result) b.files
          (subst (λ f. ReportsAnswer options (λ answer. RequestLeaves (outer.files before) request answer f)
          (contents out) (contents left) result) a.files
          (carried.exact (a.gives honest)));
      machine = λ honest state held.
          subst (λ f. ReportsAnswer options (λ answer. FollowsModel state request answer f) (contents out)
          (contents left) result) a.files
          (carried.machine (a.gives honest) state (subst (λ f. SimulatesInFiles f state) (sym b.files) held));
      after_stop = λ honest start found.
          let at = carried.after_stop (a.gives honest) start
          (subst (λ f. FilesAt f start.state start.next) (sym b.files) found) in
          (at.0, at.1, subst (λ f. FilesAt f (at.0).state (at.0).next) a.files at.2);
      survives = λ honest start found.
          let at = carried.survives (a.gives honest) start
          (found_alike inner outer old before b.files b.takes_left start.state start.next start.forgetting found) in (
            at.0,
            at.1,
            found_alike outer inner after new (sym a.files) a.gives_left (at.0).state (at.0).next
                (at.0).forgetting at.2,
          );
      after_loss = λ honest start found synced.
          reports_also options
          (λ answer. (end : RunState) × AnswersAfterStop request answer start end
          × AllAreAtSome outer (IsAfterLoss answer start end) after)
          (λ answer. (end : RunState) × AnswersAfterStop request answer start end
          × AllAreAtSome inner (IsAfterLoss answer start end) new)
          (λ answer at. (at.0, at.1, λ file may. at.2 file (a.gives_left file may)))
          (contents out) (contents left) result
          (carried.after_loss (a.gives honest) start
          (subst (λ f. FilesAt f start.state start.next) (sym b.files) found)
          (λ file may. synced file (b.takes_left file may) ∙ sym b.files));
      drawn = λ honest held committed. carried.drawn (a.gives honest) held
          (subst (λ f. IsCommittedState f held) (sym b.files) committed);
      reads_only = λ honest look held committed.
          reads_inside outer inner before after old new b a (carried.reads_only (a.gives honest) look held
          (subst (λ f. IsCommittedState f held) (sym b.files) committed));
      quiet = carried.quiet;
      failed = carried.failed;
      fault = rose_inside result (outer.failures before) (outer.failures after) (inner.failures old)
          (inner.failures new) b.failures a.failures carried.fault;
      clash = λ honest held committed.
          subst (λ f. IfRefused result (HasCallClash request held f)) b.files
          (carried.clash (a.gives honest) held (subst (λ f. IsCommittedState f held) (sym b.files) committed));
      undrawn = no_diff_as (IsUndrawn outer before after) (IsUndrawn inner old new) (left ≡ out) result
          (undrawn_inside outer inner before after old new b a) carried.undrawn;
      failures = omega (arith, carried.failures, b.failures, a.failures);
      was_honest = λ honest. b.takes (carried.was_honest (a.gives honest));
    }

-- where each whole store is as the one inside it
pub carried_inside : {W S O : Type 0} (outer : Ghosts W) (inner : Ghosts S) (contents : O → List ℕ)
    (has_failed : O → Bool) (request : Request) (options : PrintOptions)
    (before after : W) (old new : S) (out left : O) (result : Result ℕ Fault)
    → CarriesOut outer contents has_failed request options before after out left result
    → (inside : W → S) → ((whole : W) → IsSameStore outer inner whole (inside whole)) → inside before ≡ old
    → inside after ≡ new
    → CarriesOut inner contents has_failed request options old new out left result
carried_inside outer inner contents has_failed request options before after old new out left result carried
    inside same was is =
    same_inside outer inner contents has_failed request options before after old new out left result
    (subst (IsSameStore outer inner before) was (same before))
    (subst (IsSameStore outer inner after) is (same after)) carried
