-- When a session stands at a state of the model.
use Rattle.std.specs.Prelude.{◌≡◌, ℕ, ◌+◌, ◌≤◌, Bool, true, false, List, [], ◌∷◌, length, Result, Ok, Err}
use Rattle.reuse_change.specs.declared.layout.TheConstants.{LAST_NUMBER}
use Rattle.std.specs.List.{All}
use Rattle.reuse_change.specs.Files.{Files, AreFiles}
use Rattle.reuse_command.specs.Command.{name_of}
use Rattle.reuse_change.specs.Entry.{IsEntry, CanBeMade}
use Rattle.reuse_change.specs.declared.change.Change.{Change}
use Rattle.reuse_change.specs.declared.direction.Direction.{Direction}
use Rattle.reuse_tree.specs.Head.{listed_direction}
use Rattle.reuse_command.specs.declared.reply.Refusal.TheVariants.{JournalFull}
use Rattle.reuse_journal.specs.History.{Memory}
use Rattle.reuse_journal.specs.Journal.{Recorded, State}
use Rattle.reuse_journal.specs.JournalFiles.{number_of, IsKeptIn}
use Rattle.reuse_session.specs.session.Machine.{Connects, Kept, Snapshots, Step}
use Rattle.reuse_journal.specs.Labels.{is_full}
use Rattle.reuse_plan.specs.Outcome.{edits_of, outcome_of}
use Rattle.reuse_plan.specs.PathOutcomes.{left_paths}
use Rattle.reuse_plan.specs.Plan.{IsPlan, Records}
use Rattle.reuse_journal.specs.CommittedState.{IsCommittedState, IsStep, BetweenStates}
use Rattle.reuse_change.specs.Tree.{changed_paths}
use Rattle.reuse_command.specs.declared.command.Command.{Command}
use Rattle.reuse_json.specs.declared.entry.Entry.{Entry}
use Rattle.reuse_tree.specs.declared.journal.head.Pending.{Pending}
use Rattle.reuse_tree.specs.declared.journal.head.PendingDirection.TheVariants as directions
use Rattle.reuse_session.specs.declared.session.Session.{Session}
use Rattle.reuse_command.specs.declared.reply.Response.{Response}
use Rattle.reuse_command.specs.declared.reply.Response.TheVariants.{Changed, NothingChanged}
use Rattle.reuse_command.specs.declared.reply.Refusal.{Refusal}
use Rattle.reuse_journal.specs.Remembered.{Remembers}
use Rattle.reuse_plan.specs.declared.counts.Counts.{Counts}

-- the store of a session
abbrev pub store_of : {S : Type 0} → Session S → S
store_of session = session.store

-- whether an earlier call of the session was interrupted
abbrev pub is_broken : {S : Type 0} → Session S → Bool
is_broken session = session.broken

-- what the last run of a session counted, or its preview, which is no part of what it stands at
abbrev pub counts_of : {S : Type 0} → Session S → Counts
counts_of session = session.counts

-- what a session remembers of the journal
abbrev pub memory_of : {S : Type 0} → Session S → Memory
memory_of session = session.history

-- the session isn't broken, its store's files are the committed state, and it remembers its journal
pub record SimulatesState {S : Type 0} (files : S → Files) (session : Session S) (held : State) : Type 0 where
  pub whole : is_broken session ≡ false
  pub committed : IsCommittedState (files (store_of session)) held
  pub remembers : Remembers (memory_of session) held.journal

-- what the session remembers, and whether it is broken, are as they were
abbrev pub IsKept : {S : Type 0} → Session S → Session S → Type 0
IsKept old new = (memory_of new ≡ memory_of old) × (is_broken new ≡ is_broken old)

-- each step has a copy of the tree before it and of that after it: its changes lead from the one to the other
abbrev pub HaveCopies : List Recorded → List Kept → Type 0
HaveCopies [] [] = Unit {0}
HaveCopies (step ∷ steps) (kept ∷ others) =
    (kept.label ≡ step.label) × Connects step.changes kept.before kept.after × HaveCopies steps others
HaveCopies [] (kept ∷ others) = ⊥
HaveCopies (step ∷ steps) [] = ⊥

-- a tree and a journal hold a state of the model: the same tree, and the steps have the copies that are kept
pub record Simulates (held : State) (state : Snapshots) : Type 0 where
  pub tree : held.tree ≡ state.tree
  pub past : HaveCopies held.journal.done state.past
  pub future : HaveCopies held.journal.undone state.future
  pub used : held.journal.used ≡ state.used

-- the session stands on a committed state that holds the state
pub record SimulatesInSession {S : Type 0} (files : S → Files) (session : Session S) (state : Snapshots) : Type 0 where
  pub held : State
  pub stands : SimulatesState files session held
  pub holds : Simulates held state

-- the call answers as the model does, and the session stands at its state
abbrev pub Follows : {S : Type 0} → (S → Files) → Result Response Refusal → Session S → Step → Type 0
Follows files result session step = (result ≡ step.0) × SimulatesInSession files session step.1

-- the second committed state is that after a run of the command
pub record IsRun (command : Command) (when : ℕ) (first second : State) : Type 0 where
  pub step : Recorded
  pub label : step.label ≡ record { number = first.journal.used + 1; when = when; command = name_of command }
  pub room : is_full (length first.journal.done) first.journal.used ≡ false
  pub outcome : outcome_of command first.tree ≡ Ok second.tree
  pub entry : IsEntry step.changes
  pub recorded : Records first.tree (edits_of command first.tree) step.changes
  pub are_files : AreFiles second.tree
  pub is_step : IsStep directions.Do step first second

-- what a run answers and leaves: a command that gives another tree is one step, and its paths are answered; one that
-- gives the same tree leaves all, and so does a refusal, which is that of a full journal or the command's own; beside
-- these the paths are answered that an amendment leaves
abbrev pub Runs : Command → ℕ → State → Result Response Refusal → State → Type 0
Runs command when old (Ok (Changed paths left)) new = (paths ≡ changed_paths old.tree new.tree)
    × IsRun command when old new × (left ≡ left_paths command old.tree)
Runs command when old (Ok (NothingChanged left)) new = (is_full (length old.journal.done) old.journal.used ≡ false)
    × (outcome_of command old.tree ≡ Ok old.tree) × (new ≡ old) × (left ≡ left_paths command old.tree)
Runs command when old (Err JournalFull) new = (is_full (length old.journal.done) old.journal.used ≡ true) × (new ≡ old)
Runs command when old (Err refusal) new = (is_full (length old.journal.done) old.journal.used ≡ false)
    × (outcome_of command old.tree ≡ Err refusal) × (new ≡ old)
Runs command when old (Ok reply) new = ⊥

-- an entry of a run of the command, which records what it changes on the tree
abbrev pub IsRecordOf : Command → ℕ → Files → Entry → Type 0
IsRecordOf command when tree entry =
    (entry.command ≡ name_of command) × (entry.when ≡ when) × Records tree (edits_of command tree) entry.changes

-- a call that stopped on the way to the next committed state: the files are in doubt between the two
abbrev pub StopsAfterRun : Command → ℕ → State → Files → Type 0
StopsAfterRun command when first files =
    (second : State) × IsRun command when first second × BetweenStates first second files

-- the second committed state is that after the last step was taken back, or the next one made again, on a tree on which
-- each of its changes can be gone through
pub record IsReplay (direction : Direction) (first second : State) : Type 0 where
  pub step : Recorded
  pub is_step : IsStep (listed_direction direction) step first second
  pub can : All (CanBeMade direction first.tree) step.changes

abbrev pub StopsAfterReplay : Direction → State → Files → Type 0
StopsAfterReplay direction first files =
    (second : State) × IsReplay direction first second × BetweenStates first second files

-- ---- for private clauses

-- the changes are some, and are those that a run of the command makes on the tree
pub record IsPlanned (command : Command) (tree : Files) (changes : List Change) : Type 0 where
  pub entry : IsEntry changes
  pub plan : IsPlan (outcome_of command tree) tree changes
  pub recorded : Records tree (edits_of command tree) changes

-- the changes are those of a step from the first committed state, whose journal is in the folder, to the second; the
-- step is pending so, and what is remembered after it is this
pub record IsStepOf (folder : Files) (made : List Change) (pending : Pending) (moved : Memory)
    (first second : State) : Type 0 where
  pub step : Recorded
  pub changes : step.changes ≡ made
  pub number : pending.entry ≡ number_of step
  pub entry : IsEntry made
  pub kept : IsKeptIn folder step
  pub low : number_of step ≤ LAST_NUMBER
  pub is_step : IsStep pending.direction step first second
  pub remembers : Remembers moved second.journal
  pub room : pending.direction ≡ directions.Do → is_full (length first.journal.done) first.journal.used ≡ false
