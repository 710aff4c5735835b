-- What a revert of a step answers and leaves: what a run of the command does that takes the changes of the step back.
use Rattle.std.specs.Prelude.{◌≡◌, ◌⊎◌, ◌==◌, ℕ, Bool, not, List, [], ◌∷◌, filter, take_while, Result, Ok, Err, IfOk}
use Rattle.std.specs.List.{All, Contains, list_any}
use Rattle.std.specs.FinMap.{get}
use Rattle.reuse_store.specs.Asked.{OnlyReads}
use Rattle.reuse_change.specs.Files.{Files}
use Rattle.reuse_change.specs.declared.change.Change.{Change}
use Rattle.reuse_store.specs.declared.store.Store.{Ghosts}
use Rattle.reuse_command.specs.Answer.{IsEarly, RefusedAsRead}
use Rattle.reuse_session.specs.session.Calls.{folder_of, LeavesRun}
use Rattle.reuse_change.specs.Entry.{paths_of, touches}
use Rattle.reuse_journal.specs.Journal.{Recorded, Journal, State}
use Rattle.reuse_journal.specs.JournalFiles.{entry_path, number_of, EntrySays}
use Rattle.reuse_change.specs.Listing.{is_among}
use Rattle.reuse_session.specs.session.Machine.{Kept, Snapshots, ran_by}
use Rattle.reuse_session.specs.session.Session.{store_of, SimulatesState, SimulatesInSession, Follows, IsRun, Runs}
use Rattle.reuse_session.specs.session.Showing.{IsUnused, LedBy}
use Rattle.reuse_change.specs.Tree.{changed_paths}
use Rattle.reuse_command.specs.declared.command.Command.{Command}
use Rattle.reuse_command.specs.declared.command.Command.TheVariants.{Revert}
use Rattle.reuse_json.specs.declared.entry.Entry.{Entry}
use Rattle.reuse_command.specs.declared.reply.Refusal.{Refusal}
use Rattle.reuse_command.specs.declared.reply.Refusal.TheVariants.{NoSuchStep}
use Rattle.reuse_command.specs.declared.reply.Response.{Response}
use Rattle.reuse_command.specs.declared.reply.Response.TheVariants.{Changed, NothingChanged}
use Rattle.reuse_command.specs.declared.reply.Reverted.{Reverted}
use Rattle.reuse_session.specs.declared.session.Session.{Session}

-- the answer as that of a run
abbrev pub changed_or_none : List (List ℕ) → Response
changed_or_none [] = NothingChanged []
changed_or_none (path ∷ paths) = Changed (path ∷ paths) []

abbrev pub as_run : Result Reverted Refusal → Result Response Refusal
as_run (Ok reverted) = Ok (changed_or_none reverted.changed)
as_run (Err refusal) = Err refusal

-- ---- later steps

-- the steps that were done after that of the number, of steps the newest first
abbrev pub done_after : ℕ → List Recorded → List Recorded
done_after number steps = take_while (λ step. not (number_of step == number)) steps

-- whether one of the steps touches the path
abbrev pub touched_by : List Recorded → List ℕ → Bool
touched_by steps path = list_any (λ (step : Recorded). touches step.changes path) steps

-- the paths of some changes that a step touches which was done after that of the number
abbrev pub touched_later : ℕ → List Recorded → List Change → List (List ℕ)
touched_later number done changes = filter (touched_by (done_after number done)) (paths_of changes)

-- the same by the model: the paths at which the trees before and after such a step differ
abbrev pub kept_after : ℕ → List Kept → List Kept
kept_after number steps = take_while (λ (kept : Kept). not (kept.label.number == number)) steps

abbrev pub differed_by : List Kept → List ℕ → Bool
differed_by steps path = list_any (λ (kept : Kept). is_among (changed_paths kept.before kept.after) path) steps

abbrev pub changed_later : ℕ → List Kept → List Change → List (List ℕ)
changed_later number past changes = filter (differed_by (kept_after number past)) (paths_of changes)

-- what is taken is the changes of a step of the number that is done, and the late paths are those of it that later
-- steps touched
pub record IsBackOf (number : ℕ) (journal : Journal) (taken : List Change) (late : List (List ℕ)) : Type 0 where
  pub step : Recorded
  pub is_done : Contains journal.done step
  pub numbered : number_of step ≡ number
  pub changes : taken ≡ step.changes
  pub touched : late ≡ touched_later number journal.done step.changes

-- ---- what a revert does

-- the state is that after a run which takes the changes of a step of the number back, but where a later step touched
-- the path
abbrev pub IsAfterRevert : ℕ → Bool → ℕ → State → State → Type 0
IsAfterRevert number skip_moved when held next =
    (step : Recorded) × Contains held.journal.done step × (number_of step ≡ number)
    × IsRun (Revert step.changes (touched_later number held.journal.done step.changes) skip_moved) when held next

-- the paths that are none of those that changed
abbrev pub left_of : List (List ℕ) → List (List ℕ) → List (List ℕ)
left_of paths changed = filter (λ path. not (is_among changed path)) paths

-- A step of the number is done, its changes are taken back as by a run, and the step's other paths are reported. What a
-- later step touched counts as moved.
pub record TakesBack (number : ℕ) (skip_moved : Bool) (when : ℕ) (old : State) (result : Result Reverted Refusal)
    (new : State) : Type 0 where
  pub step : Recorded
  pub is_done : Contains old.journal.done step
  pub numbered : number_of step ≡ number
  pub runs : Runs (Revert step.changes (touched_later number old.journal.done step.changes) skip_moved) when old
      (as_run result) new
  pub skipped : IfOk result
      (λ (reverted : Reverted). reverted.skipped ≡ left_of (paths_of step.changes) reverted.changed)

-- what a revert answers and leaves: where no step that is done has the number it is refused
abbrev pub Reverts : ℕ → Bool → ℕ → State → Result Reverted Refusal → State → Type 0
Reverts number skip_moved when old (Err (NoSuchStep other)) new =
    (other ≡ number) × IsUnused number old.journal.done × (new ≡ old)
Reverts number skip_moved when old result new = TakesBack number skip_moved when old result new

-- the same by the model: no kept tree has the number; or the model runs the command that takes back what the step
-- of the number changed, where no later step changed it
abbrev pub RevertFollows : {S : Type 0} → (S → Files) → ℕ → Bool → ℕ → Snapshots → Result Reverted Refusal → Session S
    → Type 0
RevertFollows files number skip_moved when state result new =
    ((result ≡ Err (NoSuchStep number)) × All (λ (kept : Kept). ¬ (kept.label.number ≡ number)) state.past
    × SimulatesInSession files new state)
    ⊎ ((changes : List Change) × LedBy number state.past changes
    × Follows files (as_run result) new
    (ran_by state (Revert changes (changed_later number state.past changes) skip_moved) when))

-- what is answered where the command of a revert is asked for: that which takes back the changes of a step of the
-- number that is done, or that there is none
abbrev pub GivesRevert : ℕ → Bool → State → Result Command Refusal → Type 0
GivesRevert number skip_moved held (Ok command) =
    (step : Recorded) × Contains held.journal.done step × (number_of step ≡ number)
    × (command ≡ Revert step.changes (touched_later number held.journal.done step.changes) skip_moved)
GivesRevert number skip_moved held (Err refusal) = (refusal ≡ NoSuchStep number) × IsUnused number held.journal.done

-- the same by the model
abbrev pub GivesRevertAt : ℕ → Bool → Snapshots → Result Command Refusal → Type 0
GivesRevertAt number skip_moved state (Ok command) =
    (changes : List Change) × LedBy number state.past changes
    × (command ≡ Revert changes (changed_later number state.past changes) skip_moved)
GivesRevertAt number skip_moved state (Err refusal) =
    (refusal ≡ NoSuchStep number) × All (λ (kept : Kept). ¬ (kept.label.number ≡ number)) state.past

-- what a revert leaves: a refusal that has only read, or what a run of the command leaves that takes back what the
-- entry of the number says, where no later step of the journal touched it
abbrev pub LeavesRevert : {S : Type 0} → Ghosts S → ℕ → Bool → ℕ → Result Reverted Refusal → Session S → Session S
    → Type 0
LeavesRevert store number skip_moved when result old new =
    ((refusal : Refusal) × (result ≡ Err refusal) × IsEarly refusal × OnlyReads store (store_of old) (store_of new)
    × RefusedAsRead store (store_of old) (store_of new) result)
    ⊎ ((entry : Entry) × (store.honest (store_of new) → EntrySays (get (folder_of store old) (entry_path number)) entry)
    × (touched : List (List ℕ))
    × (store.honest (store_of new) → (held : State) → SimulatesState store.files old held
    → touched ≡ touched_later number held.journal.done entry.changes)
    × LeavesRun store (Revert entry.changes touched skip_moved) when (as_run result) old new)
