-- Runs with stops: what a driven session answers and leaves, whichever calls of the store fail.
use Rattle.std.specs.Prelude.{◌≡◌, ◌≢◌, ◌⊎◌, ◌≤◌, ◌<◌, ◌||◌, ◌&&◌, ℕ, Bool, true, false, not, List, [], ◌∷◌, map}
use Rattle.std.specs.Prelude.{Option, Some, None, Result, Ok, Err, IfErr}
use Rattle.std.specs.List.{All}
use Rattle.std.specs.FinMap.{get}
use Rattle.reuse_change.specs.Files.{Files}
use Rattle.reuse_store.specs.declared.store.Store.{Ghosts}
use Rattle.reuse_command.specs.Answer.{HasCause, nothing_recovered}
use Rattle.reuse_journal.specs.Journal.{State}
use Rattle.reuse_journal.specs.Losses.{AllRecoverToTree, AreBetweenStates}
use Rattle.reuse_session.specs.session.Machine.{Kept, Snapshots}
use Rattle.reuse_session.specs.session.Model.{Gives}
use Rattle.reuse_session.specs.session.Requests.{MayFail, as_step}
use Rattle.reuse_session.specs.session.Session.{Simulates}
use Rattle.reuse_journal.specs.CommittedState.{IsCommittedState, BetweenStates}
use Rattle.reuse_session.specs.declared.events.Event.{Event}
use Rattle.reuse_session.specs.declared.events.Event.TheVariants as event
use Rattle.reuse_command.specs.declared.request.Request.{Request}
use Rattle.reuse_command.specs.declared.request.Request.TheVariants as requests
use Rattle.reuse_command.specs.declared.reply.Recovered.{Recovered}
use Rattle.reuse_command.specs.declared.reply.Response.{Response}
use Rattle.reuse_command.specs.declared.reply.Response.TheVariants.{Changed, Forgotten, Opened}
use Rattle.reuse_command.specs.declared.reply.Response.TheVariants.{Recovered as ItRecovered, Redone, Undone}
use Rattle.reuse_command.specs.declared.reply.Refusal.{Refusal}
use Rattle.reuse_command.specs.declared.failure.Failure.TheVariants.{Interrupted}
use Rattle.reuse_command.specs.declared.reply.Refusal.TheVariants.{Broken, Failed}

-- Where a run is: whether a session is open, the state of the model, and, where a call stopped since the last
-- opening, the state after its step, which may have been reached or not. And whether forgetting was stopped, and
-- nothing was changed since: then a loss of power may leave the history with the steps or without them.
pub record RunState : Type 0 where
  pub is_open : Bool
  pub state : Snapshots
  pub next : Option Snapshots
  pub forgetting : Bool

abbrev pub open_at : Bool → Snapshots → RunState
open_at forgetting state = record { is_open = true; state = state; next = None; forgetting = forgetting }

abbrev pub closed : RunState → RunState
closed run_state = record run_state { is_open = false }

-- where a run starts
abbrev pub start_at : Snapshots → RunState
start_at state = closed (open_at false state)

-- a step that stopped is kept or left out, which the next opening finds
abbrev pub IsReached : RunState → Snapshots → Type 0
IsReached run_state state = (run_state.state ≡ state) ⊎ (run_state.next ≡ Some state)

-- An opening goes on from the state, or from that after the step that stopped. Where it fails it is left out.
abbrev pub Reopens : Result Response Refusal → RunState → RunState → Type 0
Reopens (Ok Opened) old new =
    (state : Snapshots) × IsReached old state × (new ≡ open_at old.forgetting state)
Reopens (Err (Failed failure)) old new = new ≡ closed old
Reopens answer old new = ⊥

-- by the answer a step was made, or some were taken out of the history, and what stands behind it is durable
abbrev pub is_durable : Result Response Refusal → Bool
is_durable (Ok (Changed paths left)) = true
is_durable (Ok (Undone paths)) = true
is_durable (Ok (Redone paths)) = true
is_durable (Ok (Forgotten (number ∷ numbers))) = true
is_durable answer = false

abbrev pub forgets : Request → Bool
forgets (requests.Forget steps) = true
forgets request = false

-- A request to an open session. One that was interrupted closes it, and its step is kept or left out; one that failed
-- earlier is left out; and every other is answered as by the model.
abbrev pub Continues : Request → Result Response Refusal → RunState → RunState → Type 0
Continues request (Err (Failed (Interrupted cause))) old new =
    MayFail request (Interrupted cause)
    × (given : Result Response Refusal) × (next : Snapshots) × Gives old.state request given next
    × (new ≡ record old { is_open = false; next = Some next; forgetting = forgets request || old.forgetting })
Continues request (Err (Failed failure)) old new = MayFail request failure × (new ≡ old)
Continues request answer old new = (next : Snapshots) × Gives old.state request answer next
    × (new ≡ open_at (not (is_durable (as_step answer)) && old.forgetting) next)

-- the numbers of the steps that are done, the newest first
abbrev pub done_numbers : Snapshots → List ℕ
done_numbers state = map (λ (kept : Kept). kept.label.number) state.past

-- what a recovery reports of the step between two states: its number, which is done in one of them and not in the
-- other, and some paths at which their trees differ; no path is left
pub record ReportsStep (state next : Snapshots) (reported : Recovered) : Type 0 where
  pub number : ℕ
  pub is_number : reported.number ≡ Some number
  pub between : (done_numbers next ≡ number ∷ done_numbers state) ⊎ (done_numbers state ≡ number ∷ done_numbers next)
  pub changed : All (λ path. get state.tree path ≢ get next.tree path) reported.changed
  pub skipped : reported.skipped ≡ []

-- that nothing was pending, at the state or at that after the step that stopped; or that this step was, which is rolled
-- back then
abbrev pub ReportsRecovery : RunState → Recovered → Snapshots → Type 0
ReportsRecovery old reported state = ((reported ≡ nothing_recovered) × IsReached old state)
    ⊎ ((next : Snapshots) × (old.next ≡ Some next) × (state ≡ old.state) × ReportsStep state next reported)

-- A recovery while no session is open. Where it fails it is left out.
abbrev pub Recovers : Result Response Refusal → RunState → RunState → Type 0
Recovers (Ok (ItRecovered reported)) old new =
    (state : Snapshots) × ReportsRecovery old reported state × (new ≡ closed (open_at old.forgetting state))
Recovers (Err (Failed failure)) old new = new ≡ old
Recovers answer old new = ⊥

-- while no session is open, all but an opening and a recovery is refused as broken
abbrev pub AnswersClosed : Request → Result Response Refusal → RunState → RunState → Type 0
AnswersClosed (requests.Recover skip_moved) answer old new = Recovers answer old new
AnswersClosed request answer old new = (answer ≡ Err Broken) × (new ≡ old)

abbrev pub AnswersEvent : Bool → Event → Result Response Refusal → RunState → RunState → Type 0
AnswersEvent is_open event.Reopen answer old new = Reopens answer old new
AnswersEvent true (event.Ask request) answer old new = Continues request answer old new
AnswersEvent false (event.Ask request) answer old new = AnswersClosed request answer old new

-- the events are answered so, one after the other, and lead from one run state to the other
abbrev pub RunsWithStops : List Event → List (Result Response Refusal) → RunState → RunState → Type 0
RunsWithStops [] [] old new = new ≡ old
RunsWithStops (event ∷ events) (answer ∷ answers) old new =
    (run_state : RunState) × AnswersEvent old.is_open event answer old run_state
    × RunsWithStops events answers run_state new
RunsWithStops [] (answer ∷ answers) old new = ⊥
RunsWithStops (event ∷ events) [] old new = ⊥

-- there is a count of the store's failures after each answer, from the first to the last, none less than the one before
-- it; and where the answer reports a device fault it is greater
abbrev pub HaveCauses : List (Result Response Refusal) → ℕ → ℕ → Type 0
HaveCauses [] first last = first ≤ last
HaveCauses (answer ∷ answers) first last =
    (next : ℕ) × (first ≤ next) × IfErr answer (HasCause (first < next)) × HaveCauses answers next last

-- ---- what the files are then

-- the files hold the state
abbrev pub SimulatesInFiles : Files → Snapshots → Type 0
SimulatesInFiles files state = (held : State) × IsCommittedState files held × Simulates held state

-- they do, or are in doubt between it and the next
abbrev pub FilesAt : Files → Snapshots → Option Snapshots → Type 0
FilesAt files state None = SimulatesInFiles files state
FilesAt files state (Some next) = (first : State) × (second : State) × Simulates first state
    × Simulates second next × BetweenStates first second files

-- What a loss of power may leave then: the files hold the state, and all that may be left is safe on its committed
-- state; or they, and all that may be left, are in doubt between it and the next. Where forgetting was stopped, it may
-- also be safe on a committed state with the same tree, whose history differs by forgotten steps.
abbrev pub CrashStatesWithin : {S : Type 0} → Ghosts S → S → Snapshots → Option Snapshots → (forgetting : Bool) → Type 0
CrashStatesWithin store new state None forgetting = (earlier : State) × (held : State) × Simulates held state
    × IsCommittedState (store.files new) held
    × AllRecoverToTree store (record { state = earlier; forgetting = forgetting }) held new
CrashStatesWithin store new state (Some next) forgetting =
    (earlier : State) × (first : State) × (second : State) × Simulates first state × Simulates second next
    × AreBetweenStates store (record { state = earlier; forgetting = forgetting }) first second new
