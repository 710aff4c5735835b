-- Forgetting: steps are taken out of the history, and the tree stays.
use Rattle.std.specs.Prelude.{◌≡◌, ◌≢◌, ◌⊎◌, ◌↔◌, ◌==◌, ◌||◌, ◌<◌, ◌≤◌, ◌+◌, ℕ, Bool, true, not, List, [], ◌∷◌, ◌++◌}
use Rattle.std.specs.Prelude.{length, map, reverse, filter, find, take, Option, Some, None, Result, Ok, Err, IfOk}
use Rattle.std.specs.Prelude.{IfErr}
use Rattle.std.specs.List.{All, Contains, list_any}
use Rattle.std.specs.List.Sorted.{IsStrictlyIncreasing}
use Rattle.std.specs.FinMap.{get}
use Rattle.reuse_store.specs.Asked.{Leaves}
use Rattle.reuse_change.specs.Files.{Files, Clashes, tree_of}
use Rattle.reuse_change.specs.Tree.{Sets}
use Rattle.reuse_store.specs.declared.store.Store.{Ghosts}
use Rattle.reuse_command.specs.Answer.{IsStop, HasClash}
use Rattle.reuse_session.specs.session.Calls.{files_of, folder_of}
use Rattle.reuse_journal.specs.Journal.{Recorded, Journal, State}
use Rattle.reuse_journal.specs.JournalFiles.{head_path, entry_path, number_of, IsFree}
use Rattle.reuse_journal.specs.Losses.{AllRecoverToTree, AreBetweenStates, Earlier, IsSafe}
use Rattle.reuse_session.specs.session.Machine.{Kept, Snapshots}
use Rattle.reuse_session.specs.session.Session.{store_of, memory_of, SimulatesState}
use Rattle.reuse_journal.specs.Remembered.{listed_count, head_room, HasHeadText}
use Rattle.reuse_journal.specs.CommittedState.{IsCommittedState}
use Rattle.reuse_command.specs.declared.reply.Refusal.{Refusal}
use Rattle.reuse_command.specs.declared.failure.Failure.TheVariants as failures
use Rattle.reuse_command.specs.declared.reply.Refusal.TheVariants as refusals
use Rattle.reuse_command.specs.declared.request.Steps.{Steps}
use Rattle.reuse_command.specs.declared.request.Steps.TheVariants.{All as AllSteps, Numbers}
use Rattle.reuse_session.specs.declared.session.Session.{Session}
use Rattle.reuse_journal.specs.Numbered.{is_one_of, memory_besides, state_besides}

-- ---- numbers

-- the second are the first, ascending, each once
pub record AreInOrder (numbers ordered : List ℕ) : Type 0 where
  pub ascending : IsStrictlyIncreasing ordered
  pub all : (number : ℕ) → Contains numbers number → Contains ordered number
  pub only : (number : ℕ) → Contains ordered number → Contains numbers number

-- ---- a journal

-- whether a step that is done or undone has the number
abbrev pub has_step : Journal → ℕ → Bool
has_step journal number = list_any (λ (step : Recorded). number_of step == number) journal.done || list_any
    (λ (step : Recorded). number_of step == number) journal.undone

-- the numbers of all steps
abbrev pub numbers_in : Journal → List ℕ
numbers_in journal = map number_of (reverse journal.done) ++ map number_of (reverse journal.undone)

-- the numbers that are asked for, of a journal
abbrev pub asked_numbers : Steps → Journal → List ℕ
asked_numbers AllSteps journal = numbers_in journal
asked_numbers (Numbers numbers) journal = numbers

-- the first of the numbers that no step has
abbrev pub first_absent : Journal → List ℕ → Option ℕ
first_absent journal numbers = find (λ number. not (has_step journal number)) numbers

-- what forgetting answers and leaves: each number is that of a step, and they are gone then; or the first that isn't is
-- refused, and all stays
abbrev pub Forgets : List ℕ → State → Result (List ℕ) Refusal → State → Type 0
Forgets numbers old (Ok forgotten) new =
    (first_absent old.journal numbers ≡ None) × AreInOrder numbers forgotten × (new ≡ state_besides numbers old)
Forgets numbers old (Err (refusals.NoSuchStep number)) new =
    (first_absent old.journal numbers ≡ Some number) × (new ≡ old)
Forgets numbers old (Err refusal) new = ⊥

-- ---- the model

-- the numbers of all its steps
abbrev pub numbers_of : Snapshots → List ℕ
numbers_of state = map (λ (kept : Kept). kept.label.number) (reverse state.past)
    ++ map (λ (kept : Kept). kept.label.number) (reverse state.future)

abbrev pub numbers_asked : Steps → Snapshots → List ℕ
numbers_asked AllSteps state = numbers_of state
numbers_asked (Numbers numbers) state = numbers

-- whether one of its steps has the number
abbrev pub has_kept : Snapshots → ℕ → Bool
has_kept state number =
    list_any (λ (kept : Kept). kept.label.number == number) state.past
    || list_any (λ (kept : Kept). kept.label.number == number) state.future

-- the first of the numbers that none has
abbrev pub first_unkept : Snapshots → List ℕ → Option ℕ
first_unkept state numbers = find (λ number. not (has_kept state number)) numbers

-- the copies without those of these numbers
abbrev pub kept_besides : List ℕ → List Kept → List Kept
kept_besides numbers steps = filter (λ (kept : Kept). not (is_one_of numbers kept.label.number)) steps

-- the state without the steps of these numbers: the other steps keep their copies
abbrev pub snapshots_besides : List ℕ → Snapshots → Snapshots
snapshots_besides numbers state = record {
  tree = state.tree;
  past = kept_besides numbers state.past;
  future = kept_besides numbers state.future;
  used = state.used;
}

-- what the model answers to forgetting, and its state then: each number is that of a step, and they are gone; or the
-- first that isn't is refused, and all stays
abbrev pub ForgetsTo : List ℕ → Snapshots → Result (List ℕ) Refusal → Snapshots → Type 0
ForgetsTo numbers state (Ok forgotten) next =
    (first_unkept state numbers ≡ None) × AreInOrder numbers forgotten × (next ≡ snapshots_besides numbers state)
ForgetsTo numbers state (Err (refusals.NoSuchStep number)) next =
    (first_unkept state numbers ≡ Some number) × (next ≡ state)
ForgetsTo numbers state (Err refusal) next = ⊥

-- the numbers are those of the oldest trees that are kept, and the next state is the same without these trees
pub record IsWithoutOldest (numbers : List ℕ) (state next : Snapshots) : Type 0 where
  pub oldest : List Kept
  pub past : state.past ≡ next.past ++ oldest
  pub theirs : (number : ℕ) → Contains numbers number
      ↔ Contains (map (λ (kept : Kept). kept.label.number) oldest) number
  pub tree : next.tree ≡ state.tree
  pub future : next.future ≡ state.future
  pub used : next.used ≡ state.used

-- the state with no other tree than that now
abbrev pub alone : Snapshots → Snapshots
alone state = record { tree = state.tree; past = []; future = []; used = state.used }

-- ---- the files

-- the files of the entries of these numbers are gone
abbrev pub AreGone : List ℕ → Files → Type 0
AreGone numbers files = All (λ number. get files (entry_path number) ≡ None) numbers

-- those of the highest numbers are gone, and those of the others are as they were
abbrev pub AreGoneFromTheTop : List ℕ → (before after : Files) → Type 0
AreGoneFromTheTop numbers before after =
    (low : List ℕ) × (high : List ℕ) × AreInOrder numbers (low ++ high)
    × AreGone high after × All (λ number. get after (entry_path number) ≡ get before (entry_path number)) low

-- of the journal's files none but the head holds something else, and those of the entries of these numbers hold what
-- they did or are gone
abbrev pub IsSameButGone : List ℕ → (before after : Files) → Type 0
IsSameButGone numbers before after =
    (path : List ℕ) → path ≢ head_path
    → (get after path ≡ get before path)
    ⊎ ((number : ℕ) × Contains numbers number × (path ≡ entry_path number) × (get after path ≡ None))

-- ---- what a call leaves

-- the refusals of forgetting
abbrev pub IsForgetRefusal : Refusal → Type 0
IsForgetRefusal refusals.Broken = Unit {0}
IsForgetRefusal (refusals.NoSuchStep number) = Unit {0}
IsForgetRefusal (refusals.Failed failures.Memory) = Unit {0}
IsForgetRefusal (refusals.Failed (failures.Interrupted cause)) = Unit {0}
IsForgetRefusal refusal = ⊥

-- what forgetting leaves, whatever it answers
pub record LeavesForgetting {S : Type 0} (store : Ghosts S) (numbers : List ℕ) (result : Result (List ℕ) Refusal)
    (old new : Session S) : Type 0 where
  -- the tree stays, and of the journal's files none but the head's and those of the numbers differs
  pub tree : store.honest (store_of new) → tree_of (files_of store new) ≡ tree_of (files_of store old)
  pub folder : store.honest (store_of new) → IsSameButGone numbers (folder_of store old) (folder_of store new)
  -- behind it the head is the very text of what is remembered then, and the entries are gone
  pub texts : store.honest (store_of new) → numbers ≢ []
      → IfOk result (λ forgotten. HasHeadText (memory_of new) (files_of store new)
      × AreGone numbers (files_of store new))
  -- Where it stops all files are as they were; or the head is put, and then the entries are gone from the highest
  -- number on. So the files are the committed state before the call or that after it.
  pub stops : store.honest (store_of new) → (held : State) → SimulatesState store.files old held
      → IfErr result (λ refusal. IsStop refusal → (files_of store new ≡ files_of store old)
      ⊎ (HasHeadText (memory_besides numbers (memory_of old)) (files_of store new)
      × AreGoneFromTheTop numbers (files_of store old) (files_of store new)))
  pub doubt : store.honest (store_of new) → (held : State) → SimulatesState store.files old held
      → IfErr result (λ refusal. IsStop refusal → IsCommittedState (files_of store new) held
      ⊎ IsCommittedState (files_of store new) (state_besides numbers held))
  pub order : IfErr result (λ refusal. IsStop refusal → (ordered : List ℕ) × AreInOrder numbers ordered)
  pub late : IfErr result (λ refusal. IsStop refusal → store.mutations (store_of old) < store.mutations (store_of new))
  -- it takes at most a head of the entries that are left, and asks for one put, and for at most one removal for each
  -- number
  pub written : store.honest (store_of new) → (held : State) → SimulatesState store.files old held
      → store.written (store_of new) ≤ store.written (store_of old) + head_room
      (listed_count (memory_besides numbers (memory_of old)))
  pub mutations : store.mutations (store_of new) ≤ store.mutations (store_of old) + 1 + length numbers
  -- a clash is reported only where the head's path clashes; where no path of a file of the journal is a folder, none
  -- becomes one
  pub clash : store.honest (store_of new) → IfErr result (HasClash ⊥ (Clashes (files_of store old) head_path))
  pub free : store.honest (store_of new) → IsFree (folder_of store old) → IsFree (folder_of store new)

-- What a loss of power may leave after forgetting, of what was safe on the committed state: behind it each is the
-- committed state without the steps; where it stops each is that, or safe on the committed state before it, and the
-- files are one of the two; and else all is as it was.
abbrev pub SurvivesForgetting : {S : Type 0} → Ghosts S → List ℕ → Earlier → State → Result (List ℕ) Refusal → S
    → Type 0
SurvivesForgetting store numbers earlier held (Ok []) new = AllRecoverToTree store earlier held new
SurvivesForgetting store numbers earlier held (Ok (number ∷ more)) new =
    Leaves store new (λ left. IsCommittedState left (state_besides numbers held))
SurvivesForgetting store numbers earlier held (Err (refusals.Failed (failures.Interrupted cause))) new =
    Leaves store new (λ left. IsSafe earlier held left ⊎ IsCommittedState left (state_besides numbers held))
    × AreBetweenStates store (record { state = earlier.state; forgetting = true }) held (state_besides numbers held) new
SurvivesForgetting store numbers earlier held (Err refusal) new = AllRecoverToTree store earlier held new

-- so it is from whatever committed state all that might be left before was safe on
abbrev pub SurvivesToForget : {S : Type 0} → Ghosts S → List ℕ → Result (List ℕ) Refusal → Session S → Session S
    → Type 0
SurvivesToForget store numbers result old new =
    store.honest (store_of new) → (earlier : Earlier) (held : State) → SimulatesState store.files old held
    → AllRecoverToTree store earlier held (store_of old)
    → SurvivesForgetting store numbers earlier held result (store_of new)

-- ---- for private clauses

-- the paths hold nothing then, and each other path what it held
pub record Removes (paths : List (List ℕ)) (before after : Files) : Type 0 where
  pub here : (path : List ℕ) → Contains paths path → get after path ≡ None
  pub elsewhere : (other : List ℕ) → ¬ (Contains paths other) → get after other ≡ get before other

-- some of the paths hold nothing then, and each other path what it held
abbrev pub RemovesSome : List (List ℕ) → (before after : Files) → Type 0
RemovesSome paths before after =
    (some : List (List ℕ)) × ((path : List ℕ) → Contains some path → Contains paths path) × Removes some before after

-- the path of the head has this text then, and after that these paths hold nothing; each other path holds what it held
abbrev pub PutsAndRemoves : List ℕ → List (List ℕ) → (before after : Files) → Type 0
PutsAndRemoves text paths before after = (mid : Files) × Sets head_path (Some text) before mid × Removes paths mid after

-- or some of the paths
abbrev pub PutsAndRemovesSome : List ℕ → List (List ℕ) → (before after : Files) → Type 0
PutsAndRemovesSome text paths before after =
    (mid : Files) × Sets head_path (Some text) before mid × RemovesSome paths mid after

-- where that stops: the files are as they were, and in what may be left the head is put or not; or it is put, and some
-- of the paths may be removed then
abbrev pub StopsWithRemovals : {S : Type 0} → Ghosts S → List ℕ → List (List ℕ) → (old new : S) → Type 0
StopsWithRemovals store text paths old new =
    ((store.files new ≡ store.files old)
    × Leaves store new (λ left. store.crash_states old left
    ⊎ ((kept : Files) × store.crash_states old kept × Sets head_path (Some text) kept left)))
    ⊎ ((count : ℕ) × PutsAndRemoves text (take count paths) (store.files old) (store.files new)
    × Leaves store new (λ left. store.crash_states old left
    ⊎ ((kept : Files) × store.crash_states old kept × PutsAndRemovesSome text paths kept left)))
