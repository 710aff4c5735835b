-- Where a driven session is, for private clauses.
use Rattle.std.specs.Prelude.{◌≡◌, ◌||◌, ◌&&◌, Bool, false, not, Some, Result, Err}
use Rattle.reuse_change.specs.Files.{Files}
use Rattle.reuse_store.specs.declared.store.Store.{Ghosts}
use Rattle.reuse_journal.specs.Journal.{State}
use Rattle.reuse_journal.specs.Losses.{AllRecoverToTree}
use Rattle.reuse_session.specs.session.Machine.{Snapshots}
use Rattle.reuse_session.specs.session.Model.{Gives}
use Rattle.reuse_session.specs.session.Requests.{as_step}
use Rattle.reuse_session.specs.session.Session.{store_of, SimulatesInSession}
use Rattle.reuse_session.specs.session.Stops.{RunState, open_at, forgets, is_durable, FilesAt, CrashStatesWithin}
use Rattle.reuse_command.specs.declared.request.Request.{Request}
use Rattle.reuse_command.specs.declared.reply.Refusal.{Refusal}
use Rattle.reuse_command.specs.declared.failure.Failure.TheVariants.{Interrupted}
use Rattle.reuse_command.specs.declared.reply.Refusal.TheVariants.{Failed}
use Rattle.reuse_command.specs.declared.reply.Response.{Response}
use Rattle.reuse_session.specs.declared.session.Session.{Session}
use Rattle.reuse_session.specs.declared.events.SessionSlot.{SessionSlot}
use Rattle.reuse_session.specs.declared.events.SessionSlot.TheVariants.{Open, Closed}

-- the store of an open session, or that where none is open
abbrev pub store_in : {S : Type 0} → SessionSlot S → S
store_in (Open session) = store_of session
store_in (Closed store) = store

-- a session is open and stands at the state, or none is and the files are left so
abbrev pub IsAt : {S : Type 0} → (S → Files) → SessionSlot S → RunState → Type 0
IsAt files (Open session) run_state =
    (run_state ≡ open_at run_state.forgetting run_state.state) × SimulatesInSession files session run_state.state
IsAt files (Closed store) run_state = (run_state.is_open ≡ false) × FilesAt (files store) run_state.state run_state.next

-- the session stands at the state, and all that a loss of power may leave is safe on its committed state, or where
-- forgetting was stopped beside it
pub record SimulatesSafely {S : Type 0} (store : Ghosts S) (session : Session S) (state : Snapshots) (forgetting : Bool)
    : Type 0 where
  pub at : SimulatesInSession store.files session state
  pub earlier : State
  pub safe : AllRecoverToTree store (record { state = earlier; forgetting = forgetting }) at.held (store_of session)

-- a session is open and stands safely at the state, or none is and a loss of power may leave this
abbrev pub IsSafelyAt : {S : Type 0} → Ghosts S → SessionSlot S → RunState → Type 0
IsSafelyAt store (Open session) run_state =
    (run_state ≡ open_at run_state.forgetting run_state.state)
    × SimulatesSafely store session run_state.state run_state.forgetting
IsSafelyAt store (Closed new) run_state =
    (run_state.is_open ≡ false) × CrashStatesWithin store new run_state.state run_state.next run_state.forgetting

-- What a request leaves of an open session that stood safely at the state. It stands safely there still, or at the
-- model's next, or was stopped on the way.
abbrev pub GoesSafely : {S : Type 0} → Ghosts S → Request → Result Response Refusal → Snapshots → Bool → Session S
    → Type 0
GoesSafely store request (Err (Failed (Interrupted cause))) state forgetting new =
    (given : Result Response Refusal) × (next : Snapshots) × Gives state request given next
    × CrashStatesWithin store (store_of new) state (Some next) (forgets request || forgetting)
GoesSafely store request (Err (Failed failure)) state forgetting new = SimulatesSafely store new state forgetting
GoesSafely store request answer state forgetting new = (next : Snapshots) × Gives state request answer next
    × SimulatesSafely store new next (not (is_durable (as_step answer)) && forgetting)
