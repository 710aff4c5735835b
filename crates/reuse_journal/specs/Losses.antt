-- What a loss of power leaves of a tree and its journal.
use Rattle.std.specs.Prelude.{◌≡◌, ◌⊎◌, Bool, true, List, ℕ, Some, Result, Ok, Err, MatchResult}
use Rattle.std.specs.List.{All}
use Rattle.reuse_store.specs.Asked.{Leaves, IsSynced}
use Rattle.reuse_change.specs.Entry.{LeadsBy, SomeMade}
use Rattle.reuse_change.specs.Files.{Files, tree_of}
use Rattle.reuse_tree.specs.Head.{direction_of}
use Rattle.reuse_store.specs.Durable.{IsMidway}
use Rattle.reuse_change.specs.Tree.{undo_folder_of, Sets}
use Rattle.reuse_change.specs.declared.change.Change.{Change}
use Rattle.reuse_tree.specs.declared.journal.head.PendingDirection.{PendingDirection}
use Rattle.reuse_store.specs.declared.store.Store.{Ghosts}
use Rattle.reuse_change.specs.declared.direction.Direction.{Direction}
use Rattle.reuse_command.specs.Answer.{IsStop}
use Rattle.reuse_journal.specs.Carried.{SetsHead, IsStopped}
use Rattle.reuse_journal.specs.Journal.{Journal, Recorded, State}
use Rattle.reuse_journal.specs.JournalFiles.{head_path, IsKeptIn}
use Rattle.reuse_journal.specs.Numbered.{state_besides}
use Rattle.reuse_journal.specs.Recovery.{RecoversTo}
use Rattle.reuse_command.specs.declared.reply.Recovered.{Recovered}
use Rattle.reuse_command.specs.declared.reply.Response.{Response}
use Rattle.reuse_command.specs.declared.reply.Response.TheVariants.{NothingChanged}
use Rattle.reuse_command.specs.declared.reply.Refusal.{Refusal}
use Rattle.reuse_command.specs.declared.failure.Failure.TheVariants.{Interrupted}
use Rattle.reuse_command.specs.declared.reply.Refusal.TheVariants.{Failed}
use Rattle.reuse_journal.specs.CommittedState.{IsCommittedState, IsStep, IsPending, BetweenStates}

-- What is left has the tree of the committed state. It is the committed state; or a step from it is pending, of which
-- nothing is made; or the step that led to it is pending, all of which is made.
pub record RecoversToTree (earlier held : State) (left : Files) : Type 0 where
  pub tree : tree_of left ≡ held.tree
  pub opens :
      IsCommittedState left held
      ⊎ ((next : State) × (direction : PendingDirection) × (step : Recorded) × IsStep direction step held next
      × IsPending direction step held left)
      ⊎ ((direction : PendingDirection) × (step : Recorded) × IsStep direction step earlier held
      × IsPending direction step earlier left)

-- What a loss of power may open on beside a committed state: the one before it, where a step that led to it was
-- stopped; and whether ones that differ by forgotten steps, since a forget was stopped.
pub record Earlier : Type 0 where
  pub state : State
  pub forgetting : Bool

-- the same of a state behind that one
abbrev pub beyond : Earlier → State → Earlier
beyond earlier held = record { state = held; forgetting = earlier.forgetting }

-- the two states have one tree, and of one history each lacks some steps
pub record DifferByForgotten (held other : State) : Type 0 where
  pub whole : State
  pub numbers : List ℕ
  pub others : List ℕ
  pub is_held : held ≡ state_besides numbers whole
  pub is_other : other ≡ state_besides others whole

-- the entries of all steps are in the folder
abbrev pub HasEntries : Files → Journal → Type 0
HasEntries folder journal = All (IsKeptIn folder) journal.done × All (IsKeptIn folder) journal.undone

-- what is left is safe on a state that differs by forgotten steps, and has the entries of this one
pub record IsSafeBeside (held : State) (left : Files) : Type 0 where
  pub other : State
  pub differ : DifferByForgotten held other
  pub entries : HasEntries (undo_folder_of left) held.journal
  pub earlier : State
  pub safe : RecoversToTree earlier other left

-- what is left is safe on the committed state; or, if a forget was stopped, it may be so beside it
abbrev pub IsSafe : Earlier → State → Files → Type 0
IsSafe earlier held left =
    RecoversToTree earlier.state held left ⊎ ((earlier.forgetting ≡ true) × IsSafeBeside held left)

-- all that a loss of power may leave is safe on the committed state
abbrev pub AllRecoverToTree : {S : Type 0} → Ghosts S → Earlier → State → S → Type 0
AllRecoverToTree store earlier held new = Leaves store new (IsSafe earlier held)

-- The files are in doubt between the committed state and the next, and so is all that a loss of power may leave: each
-- is safe on the committed state that the files are; or the step between the two is pending in the files, and each is
-- safe on the first, or in doubt between the two.
abbrev pub AreBetweenStates : {S : Type 0} → Ghosts S → Earlier → (held next : State) → S → Type 0
AreBetweenStates store earlier held next new =
    (IsCommittedState (store.files new) held × AllRecoverToTree store earlier held new)
    ⊎ (IsCommittedState (store.files new) next × AllRecoverToTree store (beyond earlier held) next new)
    ⊎ ((direction : PendingDirection) × (step : Recorded) × IsStep direction step held next
    × IsPending direction step held (store.files new)
    × Leaves store new (λ left. IsSafe earlier held left ⊎ BetweenStates held next left))

-- What a loss of power may leave after a call of a session that stood on the committed state: behind a step what is
-- there; where a step was stopped, the files are in doubt between the committed state and such a next one, and so is
-- all that may be left; and else it is safe on the committed state, as it was before.
abbrev pub Survives : {S : Type 0} → Ghosts S → (State → Type 0) → Earlier → State → Result Response Refusal → S
    → Type 0
Survives store IsNext earlier held (Ok (NothingChanged left)) new = AllRecoverToTree store earlier held new
Survives store IsNext earlier held (Ok reply) new = IsSynced store new
Survives store IsNext earlier held (Err (Failed (Interrupted cause))) new =
    (next : State) × IsNext next × AreBetweenStates store earlier held next new
Survives store IsNext earlier held (Err refusal) new = AllRecoverToTree store earlier held new

-- ---- recovering

-- Files in doubt were recovered. They are one of the two committed states, and all that may be left is safe on it; or
-- that failed, and they are in doubt still.
abbrev pub SurvivesBetweenStates : {S : Type 0} → Ghosts S → Earlier → (held next : State)
    → Result Recovered Refusal → S
    → Type 0
SurvivesBetweenStates store earlier held next result new =
    MatchResult result
    (λ recovered. (IsCommittedState (store.files new) held × AllRecoverToTree store earlier held new)
    ⊎ (IsCommittedState (store.files new) next × AllRecoverToTree store (beyond earlier held) next new))
    (λ refusal. AreBetweenStates store earlier held next new)

-- all that may be left has one tree
abbrev pub HaveTree : {S : Type 0} → Ghosts S → S → Files → Type 0
HaveTree store new tree = Leaves store new (λ left. tree_of left ≡ tree)

-- A step is pending in the files, and recovering them leads to the committed state, in which a path that can't be
-- rolled back is as it is found. Each tree that a loss of power may leave is that of the state with some of the step's
-- changes made, whatever its journal reports.
pub record AwaitsRecovery {S : Type 0} (store : Ghosts S) (direction : PendingDirection) (step : Recorded)
    (held : State) (new : S)
    : Type 0 where
  pub files : RecoversTo direction step held (store.files new)
  pub trees : Leaves store new (λ left. SomeMade (direction_of direction) step.changes held.tree (tree_of left))

-- they await it still; or they are that state, and all that may be left has its tree
abbrev pub AwaitsOrIs : {S : Type 0} → Ghosts S → PendingDirection → Recorded → State → S → Type 0
AwaitsOrIs store direction step held new =
    AwaitsRecovery store direction step held new
    ⊎ (IsCommittedState (store.files new) held × HaveTree store new held.tree)

-- what is left is the committed state, or recovering leads to it
abbrev pub IsOrRecoversTo : PendingDirection → Recorded → State → Files → Type 0
IsOrRecoversTo direction step held left = IsCommittedState left held ⊎ RecoversTo direction step held left

-- Files that await it were recovered. They are the committed state, and nothing else may be left. Or that failed: they
-- await it still, or are the state; and if it stopped, each that may be left is the state, or recovering leads to it.
abbrev pub SurvivesRecovery : {S : Type 0} → Ghosts S → PendingDirection → Recorded → State → Result Recovered Refusal
    → S
    → Type 0
SurvivesRecovery store direction step held result new =
    MatchResult result
    (λ recovered. IsCommittedState (store.files new) held × IsSynced store new)
    (λ refusal. AwaitsOrIs store direction step held new
    × (IsStop refusal → Leaves store new (IsOrRecoversTo direction step held)))

-- ---- for private clauses

-- a head was put on these files, or not, in the files and in what may be left
abbrev pub MayHaveHead : {S : Type 0} → Ghosts S → List ℕ → Files → S → Type 0
MayHaveHead store head done new =
    ((store.files new ≡ done) ⊎ Sets head_path (Some head) done (store.files new))
    × Leaves store new (λ left. (left ≡ done) ⊎ Sets head_path (Some head) done left)

-- where committing a step stops, from files of which nothing but the journal was in doubt: at the pending head, among
-- the changes, or at the last head
abbrev pub StopsWithDoubt : {S : Type 0} → Ghosts S → Direction → List Change → (pending settled : List ℕ) → S → S
    → Type 0
StopsWithDoubt store direction changes pending settled old new =
    (((store.files new ≡ store.files old) ⊎ Sets head_path (Some pending) (store.files old) (store.files new))
    × Leaves store new (λ left. store.crash_states old left
    ⊎ ((kept : Files) × store.crash_states old kept × Sets head_path (Some pending) kept left)))
    ⊎ (IsStopped direction changes pending (store.files old) (store.files new)
    × Leaves store new (IsStopped direction changes pending (store.files old)))
    ⊎ ((done : Files) × LeadsBy direction changes (tree_of (store.files old)) (tree_of done)
    × SetsHead pending (store.files old) done × MayHaveHead store settled done new)

-- where rolling these files back to a tree stops: among the changes, or at the last head
abbrev pub StopsBackWithDoubt : {S : Type 0} → Ghosts S → Direction → List Change → List ℕ → (start before : Files) → S
    → Type 0
StopsBackWithDoubt store direction changes settled start before new =
    (IsMidway direction changes start (undo_folder_of before) (store.files new)
    × Leaves store new (IsMidway direction changes start (undo_folder_of before)))
    ⊎ ((done : Files) × (tree_of done ≡ start) × (undo_folder_of done ≡ undo_folder_of before)
    × MayHaveHead store settled done new)
