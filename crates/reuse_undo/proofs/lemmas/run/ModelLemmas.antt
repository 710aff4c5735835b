-- What comes of a session's one call from a state of the model, and what is reported of it.
use Rattle.std.proofs.Common.{◌≡◌, inl, inr, ⊎_elim, ℕ, Bool, List, None, Result, Ok, Err, refl, sym, ap, subst}
use Rattle.reuse_change.specs.Files.{Files}
use Rattle.reuse_command.specs.Answer.{IsFailure}
use Rattle.reuse_journal.specs.Journal.{State}
use Rattle.reuse_session.specs.session.Machine.{Snapshots}
use Rattle.reuse_session.specs.session.Requests.{Meets, as_answer}
use Rattle.reuse_session.specs.session.Session.{Simulates}
use Rattle.reuse_journal.specs.CommittedState.{BetweenStates, IsCommittedState}
use Rattle.reuse_session.specs.session.Stops.{start_at, SimulatesInFiles}
use Rattle.reuse_command.specs.declared.reply.Recovered.{Recovered}
use Rattle.reuse_command.specs.declared.reply.Response.{Response}
use Rattle.reuse_command.specs.declared.reply.Response.TheVariants as responses
use Rattle.reuse_command.specs.declared.reply.Refusal.{Refusal}
use Rattle.reuse_command.specs.declared.failure.Failure.TheVariants.{Fault as StoreFailed, Memory, Interrupted}
use Rattle.reuse_command.specs.declared.reply.Refusal.TheVariants.{Failed}
use Rattle.reuse_command.specs.declared.request.Request.{Request}
use Rattle.reuse_command.specs.declared.request.Request.TheVariants as requests
use Rattle.reuse_session.proofs.lemmas.session.ClosedRecovery.{nothing_pending}
use Rattle.reuse_session.proofs.lemmas.session.Driving.{left_again}
use Rattle.reuse_session.proofs.lemmas.session.Modelling.{gives_to, stopped_near}
use Rattle.reuse_print.specs.declared.fault.Fault.{Fault}
use Rattle.reuse_print.specs.declared.fault.Fault.TheVariants as faults
use Rattle.reuse_arguments.specs.declared.line.PrintOptions.{PrintOptions}
use Rattle.reuse_print.specs.Outputs.{AddsSome}
use Rattle.reuse_undo.specs.run.Recoveries.{RecoveryLeaves}
use Rattle.reuse_undo.specs.run.RunLine.{AnswersOn, IsUnopened, IsMade, RequestLeaves, SessionLeaves, FollowsModel}
use Rattle.reuse_undo.specs.run.RunLine.{ReportsAnswer, IfRefused}
use Rattle.reuse_report.specs.Responses.{IsPrintedText, Finishes}

-- ---- from a state of the model

-- a request is answered as by the model
module _ (held : State) (state : Snapshots) (holds : Simulates held state) (before after : Files)
    (committed : IsCommittedState before held) (request : Request) where
  met : (answer : Result Response Refusal) → Meets request held answer after → FollowsModel state request answer after
  met (Ok reply) meets = let to = gives_to held state holds before committed request (Ok reply) meets.0 meets.1 in
      (to.0, to.1, (meets.0, meets.2, to.2))
  met (Err (Failed (StoreFailed fault))) meets = (held, meets.1, holds)
  met (Err (Failed Memory)) meets = (held, meets.1, holds)
  met (Err (Failed (Interrupted cause))) meets =
      inr (stopped_near held state holds before committed request after meets.1)
  met (Err refusal) meets = let to = gives_to held state holds before committed request (Err refusal) meets.0 meets.1 in
      (to.0, to.1, (meets.0, meets.2, to.2))

-- what fails changes nothing where no step is in doubt
still_held : (state : Snapshots) (before after : Files) → SimulatesInFiles before state
    → ((first second : State) → BetweenStates first second before → BetweenStates first second after)
    → SimulatesInFiles after state
still_held state before after held recovers = left_again before after state None held recovers

failed : (state : Snapshots) (request : Request) (refusal : Refusal) (after : Files) → IsFailure refusal
    → SimulatesInFiles after state → FollowsModel state request (Err refusal) after
failed state request (Failed (StoreFailed fault)) after failure held = held
failed state request (Failed Memory) after failure held = held
failed state request (Failed (Interrupted cause)) after failure held = inl held
failed state request refusal after failure held = absurd failure

session_step : (state : Snapshots) (before : Files) (request : Request) (answer : Result Response Refusal)
    (after : Files) → SimulatesInFiles before state → SessionLeaves before request answer after
    → FollowsModel state request answer after
session_step state before request answer after held carries =
    let first = held.0 in
    ⊎_elim (λ (refused : (refusal : Refusal) × (answer ≡ Err refusal) × IsUnopened before refusal after).
    subst (λ a. FollowsModel state request a after) (sym refused.1)
    (failed state request refused.0 after (refused.2.recovers first first (inl held.1)).0
    (still_held state before after held (λ one other doubt. (refused.2.recovers one other doubt).1))))
    (λ (made : IsMade before request answer after).
    let on = ⊎_elim (λ (on : AnswersOn request first answer after). on)
    (λ (on : AnswersOn request first answer after). on) (made.recovers first first (inl held.1)) in
    met first state held.2 before after held.1 request answer on.2) carries

recovered_step : (state : Snapshots) (before : Files) (skip_moved : Bool) (answer : Result Recovered Refusal)
    (after : Files) → SimulatesInFiles before state → RecoveryLeaves skip_moved before answer after
    → FollowsModel state (requests.Recover skip_moved) (as_answer responses.Recovered answer) after
recovered_step state before skip_moved (Ok reported) after held leaves =
    let at = nothing_pending skip_moved before after reported (start_at state) held.0 held.1 leaves.recovered in
    (state, (ap (λ t. Ok (responses.Recovered t)) at.0, refl), subst (λ f. SimulatesInFiles f state) (sym at.1) held)
recovered_step state before skip_moved (Err refusal) after held leaves =
    failed state (requests.Recover skip_moved) refusal after (leaves.recovers held.0 held.0 (inl held.1)).0
    (still_held state before after held (λ one other doubt. (leaves.recovers one other doubt).1))

pub carries_step : (state : Snapshots) (before : Files) (request : Request) (answer : Result Response Refusal)
    (after : Files) → SimulatesInFiles before state → RequestLeaves before request answer after
    → FollowsModel state request answer after
carries_step state before (requests.Recover skip_moved) answer after held (recovered, is, leaves) =
    subst (λ a. FollowsModel state (requests.Recover skip_moved) a after) (sym is)
    (recovered_step state before skip_moved recovered after held leaves)
carries_step state before request answer after held carries =
    session_step state before request answer after held carries

-- the same, of an equal answer
pub carries_as : (before after : Files) (request : Request) (answer same : Result Response Refusal)
    → RequestLeaves before request answer after → answer ≡ same → RequestLeaves before request same after
carries_as before after request answer same carries is =
    subst (λ (a : Result Response Refusal). RequestLeaves before request a after) is carries

-- ---- what is reported

-- of an answer that is printed
pub reports_of : (options : PrintOptions) (IsAnswer : Result Response Refusal → Type 0) (response : Response)
    (old new : List ℕ) (result : Result ℕ Fault) → IsAnswer (Ok response)
    → Finishes options response old new result → ReportsAnswer options IsAnswer old new result
reports_of options IsAnswer response old new (Ok count) is finished =
    (response, is, finished.1.1, finished.0, finished.1.0)
reports_of options IsAnswer response old new (Err (faults.WouldRefuse path_outcomes)) is finished = (
  subst (λ t. IsAnswer (Ok t)) finished.1.0 is,
  finished.1.1,
  subst (λ t. AddsSome old new (IsPrintedText options t)) finished.1.0 finished.0,
)
reports_of options IsAnswer response old new (Err (faults.NoDiff refusal)) is finished =
    ((response, is, finished.0), finished.1)
reports_of options IsAnswer response old new (Err faults.Write) is finished =
    (response, is, finished.0, finished.1, finished.2)
reports_of options IsAnswer response old new (Err faults.Memory) is finished = ((response, is), finished)
reports_of options IsAnswer response old new (Err (faults.Refused refusal)) is finished = absurd finished.1
reports_of options IsAnswer response old new (Err faults.InUse) is finished = absurd finished.1

-- what is printed is no refusal
pub no_refusal : (options : PrintOptions) (response : Response) (old new : List ℕ) (result : Result ℕ Fault)
    (Claim : Refusal → Type 0) → Finishes options response old new result → IfRefused result Claim
no_refusal options response old new (Ok count) Claim finished = tt
no_refusal options response old new (Err (faults.WouldRefuse path_outcomes)) Claim finished = tt
no_refusal options response old new (Err (faults.NoDiff refusal)) Claim finished = tt
no_refusal options response old new (Err faults.Write) Claim finished = tt
no_refusal options response old new (Err faults.Memory) Claim finished = tt
no_refusal options response old new (Err (faults.Refused refusal)) Claim finished = absurd finished.1
no_refusal options response old new (Err faults.InUse) Claim finished = absurd finished.1
