-- What a session answers to a request from a committed state, and what it leaves.
use Rattle.std.specs.Prelude.{◌≡◌, ◌↔◌, ◌⊎◌, ◌+◌, ◌<◌, ℕ, Bool, true, List, Result, Ok, Err, IfErr}
use Rattle.std.specs.List.{Contains}
use Rattle.reuse_store.specs.Asked.{OnlyReads}
use Rattle.reuse_change.specs.Files.{Files, Clashes}
use Rattle.reuse_change.specs.Tree.{undo_folder_of}
use Rattle.reuse_store.specs.declared.store.Store.{Ghosts}
use Rattle.reuse_change.specs.declared.direction.Direction.TheVariants as go
use Rattle.reuse_command.specs.Answer.{IsEarly, IsStop, HasCause, HasClash, IsNoClash, RefusedAsRead, DidNotFail}
use Rattle.reuse_command.specs.Answer.{nothing_recovered}
use Rattle.reuse_session.specs.session.Calls.{files_of, folder_of, IsCall}
use Rattle.reuse_journal.specs.Journal.{Recorded, State, Undoes, Redoes, rows_in}
use Rattle.reuse_journal.specs.JournalFiles.{head_path, entry_path, number_of, IsFree}
use Rattle.reuse_journal.specs.Losses.{AllRecoverToTree, Survives, Earlier}
use Rattle.reuse_session.specs.session.Forgetting.{asked_numbers, Forgets, IsSameButGone, SurvivesForgetting}
use Rattle.reuse_session.specs.session.Previews.{run_path_outcomes_on, PreviewsReplay}
use Rattle.reuse_session.specs.session.RevertCalls.{IsAfterRevert, Reverts, changed_or_none, touched_later}
use Rattle.reuse_session.specs.session.Session.{store_of, is_broken, IsKept, IsReplay, IsRun, Runs, SimulatesState}
use Rattle.reuse_journal.specs.Remembered.{IsSameBut, IsSameButTwo}
use Rattle.reuse_session.specs.session.Showing.{IsUnused, ShowsIn}
use Rattle.reuse_journal.specs.CommittedState.{BetweenStates, IsCommittedState}
use Rattle.reuse_command.specs.declared.command.Command.TheVariants.{Revert}
use Rattle.reuse_command.specs.declared.failure.Failure.{Failure}
use Rattle.reuse_command.specs.declared.failure.Failure.TheVariants.{Fault, Interrupted, Memory}
use Rattle.reuse_command.specs.declared.path_outcome.PathOutcome.{PathOutcome}
use Rattle.reuse_command.specs.declared.reply.Refusal.{Refusal}
use Rattle.reuse_command.specs.declared.reply.Refusal.TheVariants.{Broken, Failed, NoSuchStep}
use Rattle.reuse_command.specs.declared.reply.Response.{Response}
use Rattle.reuse_command.specs.declared.reply.Response.TheVariants as responses
use Rattle.reuse_command.specs.declared.reply.Reverted.{Reverted}
use Rattle.reuse_command.specs.declared.reply.Shown.{Shown}
use Rattle.reuse_command.specs.declared.request.Call.{Call}
use Rattle.reuse_command.specs.declared.request.Call.TheVariants as calls
use Rattle.reuse_command.specs.declared.request.Request.{Request}
use Rattle.reuse_command.specs.declared.request.Request.TheVariants as requests
use Rattle.reuse_session.specs.declared.session.Session.{Session}

-- what changes nothing: a preview, a log, or a step that is shown; and a recovery, since nothing is pending
abbrev pub IsReading : Request → Type 0
IsReading (requests.Make call when) = ⊥
IsReading (requests.Forget steps) = ⊥
IsReading request = Unit {0}

-- how a request may fail: what only reads never stops, forgetting fails early and a log at all for an allocation
-- failure alone, and a recovery doesn't
abbrev pub MayFail : Request → Failure → Type 0
MayFail (requests.Make call when) failure = Unit {0}
MayFail (requests.Forget steps) (Fault fault) = ⊥
MayFail (requests.Forget steps) failure = Unit {0}
MayFail (requests.Recover skip_moved) failure = ⊥
MayFail requests.Log Memory = Unit {0}
MayFail requests.Log failure = ⊥
MayFail (requests.Preview call) (Interrupted cause) = ⊥
MayFail (requests.Preview call) failure = Unit {0}
MayFail (requests.Show number) (Interrupted cause) = ⊥
MayFail (requests.Show number) failure = Unit {0}

abbrev pub IfFailed : (Failure → Type 0) → Refusal → Type 0
IfFailed Claim (Failed failure) = Claim failure
IfFailed Claim refusal = Unit {0}

-- the value as a response, or the refusal
abbrev pub as_answer : {A : Type 0} → (A → Response) → Result A Refusal → Result Response Refusal
as_answer response (Ok value) = Ok (response value)
as_answer response (Err refusal) = Err refusal

-- ---- what is answered, and which committed state is left

-- a preview of a revert answers what a run would do that takes the changes of the step back, or that no such step is
-- done
abbrev pub PreviewsRevert : ℕ → Bool → State → Result (List PathOutcome) Refusal → Type 0
PreviewsRevert number skip_moved old answer =
    ((answer ≡ Err (NoSuchStep number)) × IsUnused number old.journal.done)
    ⊎ ((step : Recorded) × Contains old.journal.done step × (number_of step ≡ number) × (answer
    ≡ run_path_outcomes_on old (Revert step.changes (touched_later number old.journal.done step.changes) skip_moved)))

-- what a preview of a call answers
abbrev pub Previews : Call → State → Result (List PathOutcome) Refusal → Type 0
Previews (calls.Run command) old answer = answer ≡ run_path_outcomes_on old command
Previews calls.Undo old answer = PreviewsReplay go.Backward old.journal.done old.tree answer
Previews calls.Redo old answer = PreviewsReplay go.Forward old.journal.undone old.tree answer
Previews (calls.Revert number skip_moved) old answer = PreviewsRevert number skip_moved old answer

-- what a call answers, and which state it leaves
abbrev pub Makes : Call → ℕ → State → Result Response Refusal → State → Type 0
Makes (calls.Run command) when old answer new = Runs command when old answer new
Makes calls.Undo when old answer new = Undoes old.journal.done old answer new
Makes calls.Redo when old answer new = Redoes old.journal.undone old answer new
Makes (calls.Revert number skip_moved) when old answer new =
    (reverted : Result Reverted Refusal) × (answer ≡ as_answer responses.Reverted reverted)
    × Reverts number skip_moved when old reverted new

-- the same of a request; what only reads leaves the state
abbrev pub LeadsTo : Request → State → Result Response Refusal → State → Type 0
LeadsTo (requests.Make call when) old answer new = Makes call when old answer new
LeadsTo (requests.Forget steps) old answer new = (forgotten : Result (List ℕ) Refusal)
    × (answer ≡ as_answer responses.Forgotten forgotten)
    × Forgets (asked_numbers steps old.journal) old forgotten new
LeadsTo (requests.Preview call) old answer new = (path_outcomes : Result (List PathOutcome) Refusal)
    × (answer ≡ as_answer responses.Preview path_outcomes) × Previews call old path_outcomes × (new ≡ old)
LeadsTo (requests.Recover skip_moved) old answer new =
    (answer ≡ Ok (responses.Recovered nothing_recovered)) × (new ≡ old)
LeadsTo requests.Log old answer new = (answer ≡ Ok (responses.Log (rows_in old.journal))) × (new ≡ old)
LeadsTo (requests.Show number) old answer new = (shown : Result Shown Refusal)
    × (answer ≡ as_answer responses.Shown shown) × ShowsIn old.journal number shown × (new ≡ old)

-- ---- where it stops

-- the state is that after a call
abbrev pub IsAfterCall : Call → ℕ → State → State → Type 0
IsAfterCall (calls.Run command) when old new = IsRun command when old new
IsAfterCall calls.Undo when old new = IsReplay go.Backward old new
IsAfterCall calls.Redo when old new = IsReplay go.Forward old new
IsAfterCall (calls.Revert number skip_moved) when old new = IsAfterRevert number skip_moved when old new

-- the state is that after a request that makes a step, or takes some out of the history
abbrev pub IsAfter : Request → State → State → Type 0
IsAfter (requests.Make call when) old new = IsAfterCall call when old new
IsAfter (requests.Forget steps) old new =
    (forgotten : List ℕ) × Forgets (asked_numbers steps old.journal) old (Ok forgotten) new
IsAfter request old new = ⊥

-- forgetting that stopped leaves the state before it or that after it; and else files are in doubt between the two
abbrev pub IsLeftBetween : Request → State → State → Files → Type 0
IsLeftBetween (requests.Forget steps) old new files = IsCommittedState files old ⊎ IsCommittedState files new
IsLeftBetween request old new files = BetweenStates old new files

-- what a request leaves that stopped
abbrev pub IsStopped : Request → State → Files → Type 0
IsStopped request old files = (new : State) × IsAfter request old new × IsLeftBetween request old new files

-- What a request is answered and leaves. One that failed early leaves the state.
abbrev pub Meets : Request → State → Result Response Refusal → Files → Type 0
Meets request old (Err (Failed (Interrupted cause))) files =
    MayFail request (Interrupted cause) × IsStopped request old files
Meets request old (Err (Failed failure)) files = MayFail request failure × IsCommittedState files old
Meets request old answer files = (new : State) × LeadsTo request old answer new × IsCommittedState files new

-- ---- what it leaves, whatever it answers

-- A clash that is reported is that of the path that is put: of the next entry, which a run and a revert alone put, or
-- of the head. What only reads reports none.
abbrev pub HasCallClash : Request → State → Files → Refusal → Type 0
HasCallClash (requests.Make (calls.Run command) when) old files =
    HasClash (Clashes files (entry_path (old.journal.used + 1))) (Clashes files head_path)
HasCallClash (requests.Make (calls.Revert number skip_moved) when) old files =
    HasClash (Clashes files (entry_path (old.journal.used + 1))) (Clashes files head_path)
HasCallClash (requests.Make calls.Undo when) old files = HasClash ⊥ (Clashes files head_path)
HasCallClash (requests.Make calls.Redo when) old files = HasClash ⊥ (Clashes files head_path)
HasCallClash (requests.Forget steps) old files = HasClash ⊥ (Clashes files head_path)
HasCallClash request old files = IsNoClash

-- Of the journal's files none but these holds something else: a run and a revert put the next entry and the head, an
-- undo and a redo the head, and forgetting puts the head and removes entries. What only reads leaves every file.
abbrev pub KeepsFolder : Request → State → Files → Files → Type 0
KeepsFolder (requests.Make (calls.Run command) when) old before after =
    IsSameButTwo (entry_path (old.journal.used + 1)) head_path (undo_folder_of before) (undo_folder_of after)
KeepsFolder (requests.Make (calls.Revert number skip_moved) when) old before after =
    IsSameButTwo (entry_path (old.journal.used + 1)) head_path (undo_folder_of before) (undo_folder_of after)
KeepsFolder (requests.Make calls.Undo when) old before after =
    IsSameBut head_path (undo_folder_of before) (undo_folder_of after)
KeepsFolder (requests.Make calls.Redo when) old before after =
    IsSameBut head_path (undo_folder_of before) (undo_folder_of after)
KeepsFolder (requests.Forget steps) old before after =
    IsSameButGone (asked_numbers steps old.journal) (undo_folder_of before) (undo_folder_of after)
KeepsFolder request old before after = after ≡ before

-- Refused before it has put anything, what makes no step leaves every file.
abbrev pub StaysEarly : Request → Result Response Refusal → Files → Files → Type 0
StaysEarly (requests.Make call when) answer before after = Unit {0}
StaysEarly request answer before after = IfErr answer (λ refusal. IsEarly refusal → after ≡ before)

-- the answer as that of a run, by which paths changed
abbrev pub as_step : Result Response Refusal → Result Response Refusal
as_step (Ok (responses.Reverted reverted)) = Ok (changed_or_none reverted.changed)
as_step answer = answer

-- After a loss of power, at any moment of a call or of forgetting, what is left is the state before it or that after
-- it. What only reads leaves what was safe.
abbrev pub SurvivesRequest : {S : Type 0} → Ghosts S → Request → Earlier → State → Result Response Refusal → S
    → Type 0
SurvivesRequest store (requests.Make call when) earlier held answer new =
    Survives store (IsAfterCall call when held) earlier held (as_step answer) new
SurvivesRequest store (requests.Forget steps) earlier held answer new = (forgotten : Result (List ℕ) Refusal)
    × (answer ≡ as_answer responses.Forgotten forgotten)
    × SurvivesForgetting store (asked_numbers steps held.journal) earlier held forgotten new
SurvivesRequest store request earlier held answer new = AllRecoverToTree store earlier held new

-- how a session answers a request
pub record IsAnswered {S : Type 0} (store : Ghosts S) (request : Request) (answer : Result Response Refusal)
    (old new : Session S) : Type 0 where
  -- a session that was interrupted answers nothing more
  pub broken : (answer ≡ Err Broken) ↔ (is_broken old ≡ true)
  -- unless it fails, the answer and the state that is left are those of the request
  pub exact : store.honest (store_of new) → (held : State) → SimulatesState store.files old held
      → DidNotFail answer → (left : State) × SimulatesState store.files new left × LeadsTo request held answer left
  -- one that failed early, or was refused, leaves the state, and one that stopped that or the next, or files in doubt
  pub stands : store.honest (store_of new) → (held : State) → SimulatesState store.files old held
      → IfErr answer (λ refusal. IsEarly refusal → SimulatesState store.files new held)
  pub unchanged : store.honest (store_of new) → StaysEarly request answer (files_of store old) (files_of store new)
  pub doubt : store.honest (store_of new) → (held : State) → SimulatesState store.files old held
      → IfErr answer (λ refusal. IsStop refusal → IsStopped request held (files_of store new))
  pub fails : IfErr answer (IfFailed (MayFail request))
  pub survives : store.honest (store_of new) → (earlier : Earlier) (held : State) → SimulatesState store.files old held
      → AllRecoverToTree store earlier held (store_of old)
      → SurvivesRequest store request earlier held answer (store_of new)
  -- what only reads reads alone
  pub reads_only : IsReading request → OnlyReads store (store_of old) (store_of new)
  pub kept : IsReading request → IsKept old new
  pub clash : store.honest (store_of new) → (held : State) → SimulatesState store.files old held
      → IfErr answer (HasCallClash request held (files_of store old))
  -- where no path of a file of the journal is a folder, no clash is reported, and none becomes one
  pub unclashed : store.honest (store_of new) → (held : State) → SimulatesState store.files old held
      → IsFree (folder_of store old) → IfErr answer IsNoClash
  pub free : store.honest (store_of new) → IsFree (folder_of store old) → IsFree (folder_of store new)
  pub folder : store.honest (store_of new) → (held : State) → SimulatesState store.files old held
      → KeepsFolder request held (files_of store old) (files_of store new)
  -- what any call leaves
  pub call : IsCall store answer old new

-- how a session is looked at: the store is read alone, what is remembered stays, and the call doesn't stop; a fault has
-- its cause
pub record ReadsOnlyWithCause {S A : Type 0} (store : Ghosts S) (answer : Result A Refusal)
    (old new : Session S) : Type 0 where
  pub reads : OnlyReads store (store_of old) (store_of new)
  pub kept : IsKept old new
  pub fails : RefusedAsRead store (store_of old) (store_of new) answer
  pub unstopped : IfErr answer IsEarly
  pub caused : IfErr answer (HasCause (store.failures (store_of old) < store.failures (store_of new)))
