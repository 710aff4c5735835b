-- What a request is answered behind a stop, and lines one after the other.
use Rattle.std.proofs.Common.{◌≡◌, ◌⊎◌, inl, inr, ⊎_elim, ◌||◌, ◌&&◌, not, ℕ, Bool, false, List, [], ◌∷◌, Option, Some}
use Rattle.std.proofs.Common.{None, Result, Ok, Err, refl, sym, subst}
use Rattle.reuse_change.specs.Files.{Files}
use Rattle.reuse_store.specs.declared.store.Store.{Ghosts}
use Rattle.reuse_journal.specs.Journal.{State}
use Rattle.reuse_session.specs.session.Machine.{Snapshots}
use Rattle.reuse_session.specs.session.Requests.{Meets, as_step}
use Rattle.reuse_session.specs.session.Session.{Simulates}
use Rattle.reuse_journal.specs.CommittedState.{IsCommittedState, BetweenStates}
use Rattle.reuse_session.specs.session.Stops.{RunState, open_at, closed, forgets, is_durable, FilesAt, Recovers}
use Rattle.reuse_command.specs.declared.reply.Response.{Response}
use Rattle.reuse_command.specs.declared.reply.Refusal.{Refusal}
use Rattle.reuse_command.specs.declared.failure.Failure.TheVariants.{Fault as StoreFailed, Memory, Interrupted}
use Rattle.reuse_command.specs.declared.reply.Refusal.TheVariants.{Failed}
use Rattle.reuse_command.specs.declared.request.Request.{Request}
use Rattle.reuse_command.specs.declared.request.Request.TheVariants as requests
use Rattle.reuse_session.proofs.lemmas.session.ClosedRecovery.{recovers_closed}
use Rattle.reuse_session.proofs.lemmas.session.Driving.{stays_closed}
use Rattle.reuse_session.proofs.lemmas.session.Modelling.{gives_to, stopped_near}
use Rattle.reuse_undo.specs.run.AfterStops.{EndsRequest, OpensToAnswer, AnswersAfterStop}
use Rattle.reuse_undo.specs.run.LinesInTurn.{AreInTurn, CarriedLine, HoldsSame, RunAsModel}
use Rattle.reuse_undo.specs.run.RunLine.{AnswersOn, IsMade, IsUnopened, RequestLeaves, SessionLeaves, ReportsAnswer}
use Rattle.reuse_print.specs.declared.fault.Fault.{Fault}
use Rattle.reuse_print.specs.declared.fault.Fault.TheVariants as faults
use Rattle.reuse_arguments.specs.declared.line.PrintOptions.{PrintOptions}

-- ---- a request to a session that opened at a state

module _ (held : State) (state : Snapshots) (holds : Simulates held state) (before after : Files)
    (committed : IsCommittedState before held) (request : Request) (forgetting : Bool) where
  abbrev Ends : Result Response Refusal → Type 0
  Ends answer = (end : RunState) × EndsRequest forgetting state request answer end × FilesAt after end.state end.next

  met : (answer : Result Response Refusal) → Meets request held answer after → Ends answer
  met (Ok reply) meets =
      let to = gives_to held state holds before committed request (Ok reply) meets.0 meets.1 in
      let left = open_at (not (is_durable (as_step (Ok reply))) && forgetting) to.0 in
      (closed left, (left, (to.0, to.1, refl), refl), (meets.0, meets.2, to.2))
  met (Err (Failed (StoreFailed fault))) meets =
      (closed (open_at forgetting state), (open_at forgetting state, (meets.0, refl), refl), (held, meets.1, holds))
  met (Err (Failed Memory)) meets =
      (closed (open_at forgetting state), (open_at forgetting state, (meets.0, refl), refl), (held, meets.1, holds))
  met (Err (Failed (Interrupted cause))) meets =
      let stopped = stopped_near held state holds before committed request after meets.1 in
      let left : RunState = record {
        is_open = false;
        state = state;
        next = Some stopped.1;
        forgetting = forgets request || forgetting;
      } in
      (closed left, (left, (meets.0, stopped.0, stopped.1, stopped.2, refl), refl), stopped.3)
  met (Err refusal) meets =
      let to = gives_to held state holds before committed request (Err refusal) meets.0 meets.1 in
      (closed (open_at forgetting to.0), (open_at forgetting to.0, (to.0, to.1, refl), refl), (meets.0, meets.2, to.2))

-- ---- a request behind a stop

-- a session that opens on files that are left so stands at one of the states
reached : (before : Files) (request : Request) (answer : Result Response Refusal) (after : Files) (state : Snapshots)
    (next : Option Snapshots) → FilesAt before state next
    → ((first second : State) → BetweenStates first second before
    → AnswersOn request first answer after ⊎ AnswersOn request second answer after)
    → (s : Snapshots) × ((state ≡ s) ⊎ (next ≡ Some s))
    × ((held : State) × Simulates held s × AnswersOn request held answer after)
reached before request answer after state None left recovers = (
  state,
  inl refl,
  (
    left.0,
    left.2,
    ⊎_elim (λ (on : AnswersOn request left.0 answer after). on) (λ (on : AnswersOn request left.0 answer after). on)
        (recovers left.0 left.0 (inl left.1)),
  ),
)
reached before request answer after state (Some next) left recovers =
    ⊎_elim (λ (on : AnswersOn request left.0 answer after). (state, inl refl, (left.0, left.2, on)))
    (λ (on : AnswersOn request left.1 answer after). (next, inr refl, (left.1, left.3, on)))
    (recovers left.0 left.1 left.4)

opens_to_answer : (before : Files) (request : Request) (answer : Result Response Refusal) (after : Files)
    (start : RunState) → FilesAt before start.state start.next
    → SessionLeaves before request answer after
    → (end : RunState) × OpensToAnswer request answer start end × FilesAt after end.state end.next
opens_to_answer before request answer after start left carries =
    ⊎_elim (λ (refused : (refusal : Refusal) × (answer ≡ Err refusal) × IsUnopened before refusal after).
    let c = stays_closed (λ (f : Files). f) before after refused.0 start left refused.2.recovers in
    (c.0, inl (refused.0, refused.1, c.1), c.2.1))
    (λ (made : IsMade before request answer after).
    let r = reached before request answer after start.state start.next left made.recovers in
    let on = r.2.2 in
    let m = met r.2.0 r.0 r.2.1 on.0 after on.1 request start.forgetting answer on.2 in
    (m.0, inr (r.0, r.1, m.1), m.2)) carries

pub answers_after_stop : (before : Files) (request : Request) (answer : Result Response Refusal) (after : Files)
    (start : RunState) → FilesAt before start.state start.next
    → RequestLeaves before request answer after
    → (end : RunState) × AnswersAfterStop request answer start end × FilesAt after end.state end.next
answers_after_stop before (requests.Recover skip_moved) answer after start left (recovered, is, leaves) =
    let end = recovers_closed (λ (f : Files). f) before after skip_moved
    (closed start) refl recovered left leaves.recovered leaves.recovers in
    (end.0, subst (λ a. Recovers a (closed start) end.0) (sym is) end.1, end.3)
answers_after_stop before request answer after start left carries =
    opens_to_answer before request answer after start left carries

-- what is reported of an answer that leads to some end is reported of that end
pub reports_end : {X : Type 0} (options : PrintOptions) (IsAnswer : X → Result Response Refusal → Type 0)
    (Ends : X → Type 0) (old new : List ℕ) (result : Result ℕ Fault)
    → ReportsAnswer options (λ answer. (end : X) × IsAnswer end answer × Ends end) old new result
    → (end : X) × ReportsAnswer options (IsAnswer end) old new result × Ends end
reports_end options IsAnswer Ends old new (Ok count) reported =
    (reported.1.0, (reported.0, reported.1.1, reported.2, reported.3, reported.4), reported.1.2)
reports_end options IsAnswer Ends old new (Err (faults.Refused refusal)) reported =
    (reported.0.0, (reported.0.1, reported.1), reported.0.2)
reports_end options IsAnswer Ends old new (Err (faults.WouldRefuse path_outcomes)) reported =
    (reported.0.0, (reported.0.1, reported.1, reported.2), reported.0.2)
reports_end options IsAnswer Ends old new (Err (faults.NoDiff refusal)) reported = let is = reported.0.1 in
    (is.0, ((reported.0.0, is.1, reported.0.2), reported.1), is.2)
reports_end options IsAnswer Ends old new (Err faults.InUse) reported = absurd reported
reports_end options IsAnswer Ends old new (Err faults.Write) reported =
    (reported.1.0, (reported.0, reported.1.1, reported.2, reported.3, reported.4), reported.1.2)
reports_end options IsAnswer Ends old new (Err faults.Memory) reported = let is = reported.0.1 in
    (is.0, ((reported.0.0, is.1), reported.1), is.2)

-- ---- lines one after the other

module _ {S O : Type 0} (store : Ghosts S) (contents : O → List ℕ) (has_failed : O → Bool) where
  pub stopped_in_turn : (lines : List (CarriedLine S O)) (first last : S) (start : RunState)
      → AreInTurn (HoldsSame store) store contents has_failed first lines last
      → FilesAt (store.files first) start.state start.next
      → (end : RunState) × RunAsModel contents lines start end × FilesAt (store.files last) end.state end.next
  stopped_in_turn [] first last start turn left =
      (start, refl, subst (λ s. FilesAt (store.files s) start.state start.next) (sym turn) left)
  stopped_in_turn (line ∷ lines) first last start turn left =
      let one = turn.2.after_stop turn.1 start (subst (λ f. FilesAt f start.state start.next) (sym turn.0) left) in
      let rest = stopped_in_turn lines line.new last one.0 turn.3 one.2 in
      (rest.0, (one.0, one.1, rest.1), rest.2)
