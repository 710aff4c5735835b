-- Dry runs that are answered with what would change.
use Rattle.std.proofs.Common.{◌≡◌, ◌↔◌, ◌∙◌, Bool, true, false, List, [], ◌∷◌, Option, Some, None, IfSome, IsSomeAnd}
use Rattle.std.proofs.Common.{Result, Ok, Err, IfOk, refl, sym, ap, subst}
use Rattle.std.proofs.lemmas.Bool.{false≢true}
use Rattle.reuse_change.specs.Entry.{IsEntry}
use Rattle.reuse_change.specs.Files.{Files}
use Rattle.reuse_store.specs.declared.store.Store.{Ghosts}
use Rattle.reuse_change.specs.declared.direction.Direction.{Direction}
use Rattle.reuse_change.specs.declared.direction.Direction.TheVariants as go
use Rattle.reuse_command.specs.Answer.{DidNotFail}
use Rattle.reuse_plan.specs.PathOutcomes.{first_refusal}
use Rattle.reuse_journal.specs.Journal.{State, ahead, changes_ahead, Replays}
use Rattle.reuse_plan.specs.Outcome.{outcome_of}
use Rattle.reuse_plan.specs.Plan.{IsPlan}
use Rattle.reuse_session.specs.session.Previews.{path_outcomes_alone}
use Rattle.reuse_session.specs.session.Session.{store_of, is_broken, SimulatesState}
use Rattle.reuse_command.specs.declared.command.Command.{Command}
use Rattle.reuse_command.specs.declared.request.Call.{Call}
use Rattle.reuse_command.specs.declared.path_outcome.PathOutcome.{PathOutcome}
use Rattle.reuse_command.specs.declared.path_outcome.PathOutcome.TheVariants as path_outcome
use Rattle.reuse_command.specs.declared.path_outcome.Previewed.{Previewed}
use Rattle.reuse_command.specs.declared.reply.Refusal.{Refusal}
use Rattle.reuse_command.specs.declared.reply.Refusal.TheVariants.{Broken}
use Rattle.reuse_command.specs.declared.reply.Response.{Response}
use Rattle.reuse_command.specs.declared.reply.Response.TheVariants as responses
use Rattle.reuse_session.specs.declared.session.Session.{Session}
use Rattle.reuse_session.proofs.lemmas.session.Answering.{answered_look, fails_early, preview_fails}
use Rattle.reuse_session.proofs.lemmas.session.Peeking.{refused, same_refusal, reads_with_cause_err}
use Rattle.reuse_session.proofs.lemmas.session.Peeking.{reads_with_cause_ok}
use Rattle.reuse_session.proofs.lemmas.session.Previewing.{alone_where, reported_alone}
use Rattle.reuse_report.specs.Drawn.{LeadsAsPreviewed}
use Rattle.reuse_undo.specs.run.DryRuns.{planned_in, planned_unless, IsAnsweredWith, WouldLeave}
use Rattle.reuse_session.specs.session.Requests.{IsAnswered, ReadsOnlyWithCause, Previews, as_answer}
use Rattle.reuse_report.specs.Responses.{is_refused, IsAccepted}
use Rattle.reuse_command.specs.declared.request.Request.{Request}
use Rattle.reuse_command.specs.declared.request.Request.TheVariants as requests
use Rattle.reuse_report.specs.declared.drawn.PlannedChanges.{PlannedChanges}
use Rattle.reuse_undo.proofs.lemmas.run.TreeDiffLemmas.{going, plan_previews, replay_previews}

-- ---- what is answered

alone_reads_with_cause : {S : Type 0} (store : Ghosts S) (answer : Result Previewed Refusal) (old new : Session S)
    → ReadsOnlyWithCause store answer old new → ReadsOnlyWithCause store (path_outcomes_alone answer) old new
alone_reads_with_cause store (Ok previewed) old new reads_with_cause =
    reads_with_cause_ok store (Ok previewed) previewed.path_outcomes old new reads_with_cause
alone_reads_with_cause store (Err refusal) old new reads_with_cause =
    reads_with_cause_err store refusal old new reads_with_cause

-- a look whose path outcomes are reported alone
module _ {S : Type 0} (store : Ghosts S) (answer : Result Previewed Refusal) (reported : Result Response Refusal)
    (old new : Session S) (is : reported ≡ as_answer responses.Preview (path_outcomes_alone answer))
    (reads_with_cause : ReadsOnlyWithCause store answer old new)
    (broken : answer ≡ Err Broken ↔ (is_broken old ≡ true)) where
  pub call_answered : (call : Call) → (store.honest (store_of new) → (held : State)
      → SimulatesState store.files old held → DidNotFail answer → Previews call held (path_outcomes_alone answer))
      → IsAnswered store (requests.Preview call) reported old new
  call_answered call right =
      let alone = alone_reads_with_cause store answer old new reads_with_cause in
      subst (λ a. IsAnswered store (requests.Preview call) a old new) (sym is)
      (answered_look store (requests.Preview call) tt responses.Preview (path_outcomes_alone answer) old new alone
      (alone_where answer (path_outcomes_alone answer) refl Broken (is_broken old ≡ true) broken)
      (fails_early (requests.Preview call) (preview_fails call) (path_outcomes_alone answer) alone.unstopped)
      (λ honest held stands t. (
        path_outcomes_alone answer,
        refl,
        right honest held stands (reported_alone answer (path_outcomes_alone answer) refl t),
        refl,
      )))

-- whether the session was broken, where a look came before, and where only that was made
pub broken_again : {S : Type 0} (old mid : Session S) (answer : Result Previewed Refusal)
    → is_broken mid ≡ is_broken old → (answer ≡ Err Broken ↔ (is_broken mid ≡ true))
    → (answer ≡ Err Broken ↔ (is_broken old ≡ true))
broken_again old mid answer same broken = (λ is. sym same ∙ broken.0 is, λ is. broken.1 (same ∙ is))

pub broken_same : {A : Type 0} {P : Type 0} (first : Result A Refusal) (refusal : Refusal) → first ≡ Err refusal
    → (first ≡ Err Broken ↔ P) → (refused Previewed refusal ≡ refused Previewed Broken ↔ P)
broken_same {A} first refusal is broken = (
  λ e. broken.0 (is ∙ ap (refused A) (same_refusal Previewed refusal Broken e)),
  λ p. ap (refused Previewed) (same_refusal A refusal Broken (sym is ∙ broken.1 p)),
)

-- ---- what would change

-- it is there only where none of the path outcomes is a refusal
accepted_in : (direction : Direction) (answer : Result Previewed Refusal) → IfSome (planned_in direction answer)
    (λ planned. IsAccepted (as_answer responses.Preview (path_outcomes_alone answer)))
accepted_in direction (Err refusal) = tt
accepted_in direction (Ok previewed) = by_refusal (is_refused previewed.path_outcomes) refl
  where
    by_refusal : (b : Bool) → is_refused previewed.path_outcomes ≡ b
        → IfSome (planned_unless b previewed.changes direction)
        (λ planned. IsAccepted (as_answer responses.Preview (path_outcomes_alone (Ok previewed))))
    by_refusal true is = tt
    by_refusal false is = (previewed.path_outcomes, refl, is)

same_path_outcomes : (one other : List PathOutcome) → responses.Preview one ≡ responses.Preview other → one ≡ other
same_path_outcomes one other is = cc

-- and there it is
accepted_some : (direction : Direction) (answer : Result Previewed Refusal) (IsThat : PlannedChanges → Type 0)
    → IsAccepted (as_answer responses.Preview (path_outcomes_alone answer))
    → IfOk answer (λ previewed. is_refused previewed.path_outcomes ≡ false → IsThat (going direction previewed.changes))
    → IsSomeAnd (planned_in direction answer) IsThat
accepted_some direction (Err refusal) IsThat accepted all = absurd accepted
accepted_some direction (Ok previewed) IsThat accepted all = by_refusal (is_refused previewed.path_outcomes) refl
  where
    by_refusal : (b : Bool) → is_refused previewed.path_outcomes ≡ b
        → IsSomeAnd (planned_unless b previewed.changes direction) IsThat
    by_refusal true is = absurd (false≢true
        (sym accepted.2 ∙ ap is_refused (sym (same_path_outcomes previewed.path_outcomes accepted.0 accepted.1)) ∙ is))
    by_refusal false is = all is

none_first : (path_outcomes : List PathOutcome) → is_refused path_outcomes ≡ false → first_refusal path_outcomes ≡ None
none_first [] none = refl
none_first (path_outcome.Refused first ∷ path_outcomes) none = absurd (false≢true (sym none))
none_first (path_outcome.Changes path harm ∷ path_outcomes) none = none_first path_outcomes none
none_first (path_outcome.Unchanged path ∷ path_outcomes) none = none_first path_outcomes none
none_first (path_outcome.Skipped path ∷ path_outcomes) none = none_first path_outcomes none
none_first (path_outcome.Left path ∷ path_outcomes) none = none_first path_outcomes none

-- a run's changes lead to the tree of the command's outcome
pub run_previews : (command : Command) (held : State) (answer : Result Previewed Refusal) (after : Files)
    → IfOk answer (λ previewed. first_refusal previewed.path_outcomes ≡ None
    → IsPlan (outcome_of command held.tree) held.tree previewed.changes) → outcome_of command held.tree ≡ Ok after
    → IsAccepted (as_answer responses.Preview (path_outcomes_alone answer))
    → IsSomeAnd (planned_in go.Forward answer) (λ planned. LeadsAsPreviewed planned held.tree after)
run_previews command held answer after plan left accepted =
    accepted_some go.Forward answer (λ planned. LeadsAsPreviewed planned held.tree after) accepted (planned answer plan)
  where
    planned : (answer : Result Previewed Refusal)
        → IfOk answer (λ previewed. first_refusal previewed.path_outcomes ≡ None
        → IsPlan (outcome_of command held.tree) held.tree previewed.changes)
        → IfOk answer (λ previewed. is_refused previewed.path_outcomes ≡ false
        → LeadsAsPreviewed (going go.Forward previewed.changes) held.tree after)
    planned (Err refusal) plan = tt
    planned (Ok previewed) plan = λ none. plan_previews (outcome_of command held.tree) held.tree after previewed.changes
        (plan (none_first previewed.path_outcomes none)) left

-- a step's changes lead to the tree that an undo or a redo leaves
pub step_previews : (direction : Direction) (held : State) (answer : Result Previewed Refusal) (reply : Response)
    (new : State) (after : Files) → Replays direction (ahead direction held.journal) held (Ok reply) new
    → new.tree ≡ after
    → IfOk answer (λ previewed. changes_ahead (ahead direction held.journal) ≡ Some previewed.changes)
    → IfOk answer (λ previewed. IsEntry previewed.changes)
    → IsAccepted (as_answer responses.Preview (path_outcomes_alone answer))
    → IsSomeAnd (planned_in direction answer) (λ planned. LeadsAsPreviewed planned held.tree after)
step_previews direction held answer reply new after replays is next entry accepted = accepted_some direction answer
    (λ planned. LeadsAsPreviewed planned held.tree after) accepted (leads answer next entry)
  where
    leads : (answer : Result Previewed Refusal)
        → IfOk answer (λ previewed. changes_ahead (ahead direction held.journal) ≡ Some previewed.changes)
        → IfOk answer (λ previewed. IsEntry previewed.changes)
        → IfOk answer (λ previewed. is_refused previewed.path_outcomes ≡ false
        → LeadsAsPreviewed (going direction previewed.changes) held.tree after)
    leads (Err refusal) next entry = tt
    leads (Ok previewed) next entry =
        λ none. subst (LeadsAsPreviewed (going direction previewed.changes) held.tree) is
        (replay_previews direction (ahead direction held.journal) held reply new previewed.changes replays next entry)

-- ---- both

pub answered_with : {S : Type 0} (store : Ghosts S) (request : Request) (direction : Direction)
    (answer : Result Previewed Refusal) (reported : Result Response Refusal) (planned : Option PlannedChanges)
    (old new : Session S)
    → reported ≡ as_answer responses.Preview (path_outcomes_alone answer) → planned ≡ planned_in direction answer
    → IsAnswered store request reported old new
    → (store.honest (store_of new) → (held : State) → SimulatesState store.files old held → (after : Files)
    → WouldLeave request held after → IsAccepted (as_answer responses.Preview (path_outcomes_alone answer))
    → IsSomeAnd (planned_in direction answer) (λ planned. LeadsAsPreviewed planned held.tree after))
    → IsAnsweredWith store request reported planned old new
answered_with store request direction answer reported planned old new is was answered previews = record {
  answered = answered;
  accepted = subst (λ (f : Option PlannedChanges). IfSome f (λ g. IsAccepted reported)) (sym was)
      (subst (λ (t : Result Response Refusal). IfSome (planned_in direction answer) (λ g. IsAccepted t)) (sym is)
      (accepted_in direction answer));
  previews = λ honest held stands after would accepted.
      subst (λ (f : Option PlannedChanges). IsSomeAnd f (λ g. LeadsAsPreviewed g held.tree after)) (sym was)
      (previews honest held stands after would (subst (λ (t : Result Response Refusal). IsAccepted t) is accepted));
}
