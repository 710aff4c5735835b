-- What a loss of power may leave of what a line asks for.
use Rattle.std.proofs.Common.{◌≡◌, ◌⊎◌, inl, inr, ◌||◌, ◌&&◌, Bool, false, not, Option, Some, None, Result, Ok, Err}
use Rattle.std.proofs.Common.{IfErr, refl, sym, subst}
use Rattle.reuse_change.specs.Files.{Files}
use Rattle.reuse_store.specs.declared.store.Store.{Ghosts}
use Rattle.reuse_journal.specs.Journal.{State}
use Rattle.reuse_journal.specs.Losses.{AllRecoverToTree, AreBetweenStates, Earlier, beyond}
use Rattle.reuse_journal.specs.CommittedState.{IsCommittedState, IsPending}
use Rattle.reuse_session.specs.session.SessionSlot.{SimulatesSafely, GoesSafely}
use Rattle.reuse_session.specs.session.Machine.{Snapshots}
use Rattle.reuse_session.specs.session.Requests.{IfFailed, IsAnswered, MayFail, as_step}
use Rattle.reuse_session.specs.session.Session.{store_of, SimulatesState}
use Rattle.reuse_session.specs.session.Stops.{RunState, open_at, closed, forgets, is_durable, CrashStatesWithin}
use Rattle.reuse_command.specs.declared.failure.Failure.TheVariants.{Fault, Interrupted, Memory}
use Rattle.reuse_command.specs.declared.reply.Refusal.{Refusal}
use Rattle.reuse_command.specs.declared.reply.Refusal.TheVariants.{Failed}
use Rattle.reuse_command.specs.declared.reply.Response.{Response}
use Rattle.reuse_command.specs.declared.request.Request.{Request}
use Rattle.reuse_session.specs.declared.session.Session.{Session}
use Rattle.reuse_session.proofs.lemmas.session.SafeAnswers.{goes_safely}
use Rattle.reuse_session.proofs.lemmas.session.SafeDriving.{opens_safely}
use Rattle.reuse_undo.specs.run.AfterStops.{EndsRequest, OpensToAnswer}

-- ---- a request to a session that opened

module _ {S : Type 0} (store : Ghosts S) where
  found_of : (session : Session S) (state : Snapshots) (forgetting : Bool)
      → SimulatesSafely store session state forgetting
      → CrashStatesWithin store (store_of session) state None forgetting
  found_of session state forgetting safely =
      (safely.earlier, safely.at.held, safely.at.holds, safely.at.stands.committed, safely.safe)

  ends_safely : (forgetting : Bool) (state : Snapshots) (session : Session S) (request : Request)
      (answer : Result Response Refusal) → GoesSafely store request answer state forgetting session
      → IfErr answer (IfFailed (MayFail request))
      → (end : RunState) × EndsRequest forgetting state request answer end
      × CrashStatesWithin store (store_of session) end.state end.next end.forgetting
  ends_safely forgetting state session request (Ok reply) safely fails =
      let left = open_at (not (is_durable (as_step (Ok reply))) && forgetting) safely.0 in
      (closed left, (left, (safely.0, safely.1, refl), refl), found_of session safely.0 left.forgetting safely.2)
  ends_safely forgetting state session request (Err (Failed (Fault fault))) safely fails = (
    closed (open_at forgetting state),
    (open_at forgetting state, (fails, refl), refl),
    found_of session state forgetting safely,
  )
  ends_safely forgetting state session request (Err (Failed Memory)) safely fails = (
    closed (open_at forgetting state),
    (open_at forgetting state, (fails, refl), refl),
    found_of session state forgetting safely,
  )
  ends_safely forgetting state session request (Err (Failed (Interrupted cause))) safely fails =
      let left : RunState = record {
        is_open = false;
        state = state;
        next = Some safely.1;
        forgetting = forgets request || forgetting;
      } in
      (closed left, (left, (fails, safely.0, safely.1, safely.2, refl), refl), safely.3)
  ends_safely forgetting state session request (Err refusal) safely fails = (
    closed (open_at forgetting safely.0),
    (open_at forgetting safely.0, (safely.0, safely.1, refl), refl),
    found_of session safely.0 forgetting safely.2,
  )

  -- the opening and the call
  pub answers_safely : (before : S) (opened asked : Session S) (request : Request) (answer : Result Response Refusal)
      (start : RunState) → CrashStatesWithin store before start.state start.next start.forgetting
      → ((earlier : Earlier) (held second : State) → AreBetweenStates store earlier held second before
      → (SimulatesState store.files opened held × AllRecoverToTree store earlier held (store_of opened))
      ⊎ (SimulatesState store.files opened second
      × AllRecoverToTree store (beyond earlier held) second (store_of opened)))
      → IsAnswered store request answer opened asked → store.honest (store_of asked)
      → (end : RunState) × OpensToAnswer request answer start end
      × CrashStatesWithin store (store_of asked) end.state end.next end.forgetting
  answers_safely before opened asked request answer start found survives is honest =
      let r = opens_safely store before opened start found survives in
      let state : Snapshots = r.1.0 in
      let safely = subst (λ (p : RunState). SimulatesSafely store opened p.state p.forgetting) r.1.2 r.2.1 in
      let e = ends_safely start.forgetting state asked request answer
      (goes_safely store request answer opened asked is honest state start.forgetting safely) is.fails in
      (e.0, inr (state, r.1.1, e.1), e.2)

-- ---- a store of the same files, of which a loss of power leaves no more

module _ {S W : Type 0} (store : Ghosts S) (other : Ghosts W) (old : S) (new : W)
    (same : other.files new ≡ store.files old)
    (may : (left : Files) → other.crash_states new left → store.crash_states old left) where
  committed_alike : (held : State) → IsCommittedState (store.files old) held → IsCommittedState (other.files new) held
  committed_alike held committed = subst (λ f. IsCommittedState f held) (sym same) committed

  safe_alike : (earlier : Earlier) (held : State) → AllRecoverToTree store earlier held old
      → AllRecoverToTree other earlier held new
  safe_alike earlier held safe left is = safe left (may left is)

  doubt_alike : (earlier : Earlier) (held next : State) → AreBetweenStates store earlier held next old
      → AreBetweenStates other earlier held next new
  doubt_alike earlier held next (inl (committed, safe)) =
      inl (committed_alike held committed, safe_alike earlier held safe)
  doubt_alike earlier held next (inr (inl (committed, safe))) =
      inr (inl (committed_alike next committed, safe_alike (beyond earlier held) next safe))
  doubt_alike earlier held next (inr (inr (direction, step, leads, under, left))) =
      inr (inr
      (direction, step, leads, subst (IsPending direction step held) (sym same) under, λ one is. left one (may one is)))

  pub found_alike : (state : Snapshots) (next : Option Snapshots) (forgetting : Bool)
      → CrashStatesWithin store old state next forgetting → CrashStatesWithin other new state next forgetting
  found_alike state None forgetting found = (
    found.0,
    found.1,
    found.2,
    committed_alike found.1 found.3,
    safe_alike (record { state = found.0; forgetting = forgetting }) found.1 found.4,
  )
  found_alike state (Some next) forgetting found = (
    found.0,
    found.1,
    found.2,
    found.3,
    found.4,
    doubt_alike (record { state = found.0; forgetting = forgetting }) found.1 found.2 found.5,
  )
