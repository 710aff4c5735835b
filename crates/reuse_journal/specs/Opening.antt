-- What opening a session finds.
use Rattle.std.specs.Prelude.{◌≡◌, ◌⊎◌, ◌↔◌, ℕ, ◌+◌, ◌<◌, ◌≤◌, List, [], ◌∷◌, ◌++◌, length, Option, Some, None, IsSome}
use Rattle.std.specs.Prelude.{Result, Err, IsOk, nat_lt, if◌then◌else◌}
use Rattle.std.specs.List.{All, Contains}
use Rattle.std.specs.FinMap.{get}
use Rattle.reuse_change.specs.Layout.{above_journal}
use Rattle.reuse_change.specs.Path.{journal_folder}
use Rattle.reuse_change.specs.Files.{Files, tree_of}
use Rattle.reuse_store.specs.declared.store.Store.{Ghosts}
use Rattle.reuse_change.specs.Entry.{CanBeRolledBack, IsFirstWithout}
use Rattle.reuse_tree.specs.Head.{listed, direction_of}
use Rattle.reuse_journal.specs.History.{Memory}
use Rattle.reuse_journal.specs.Journal.{Recorded, Journal, State}
use Rattle.reuse_journal.specs.JournalFiles.{head_path, entry_path, number_of, HeadSays, EntrySays, IsKeptIn}
use Rattle.reuse_journal.specs.JournalFiles.{KeepsJournal}
use Rattle.reuse_journal.specs.Remembered.{Remembers}
use Rattle.reuse_journal.specs.CommittedState.{IsCommittedState, IsPending}
use Rattle.reuse_change.specs.Tree.{undo_folder_of}
use Rattle.reuse_tree.specs.declared.journal.head.Head.{Head}
use Rattle.reuse_tree.specs.declared.journal.head.Pending.{Pending}
use Rattle.reuse_tree.specs.declared.journal.head.PendingDirection.{PendingDirection}
use Rattle.reuse_json.specs.declared.entry.Entry.{Entry}
use Rattle.reuse_journal.specs.declared.history.ListedEntry.{ListedEntry}
use Rattle.reuse_command.specs.declared.reply.Refusal.{Refusal}
use Rattle.reuse_command.specs.declared.reply.Refusal.TheVariants.{BadJournal, Moved}

-- the number of what is pending
abbrev pub pending_numbers : Option Pending → List ℕ
pending_numbers None = []
pending_numbers (Some pending) = pending.entry ∷ []

-- the numbers of the entries that a head names
abbrev pub named : Head → List ℕ
named head = listed head ++ pending_numbers head.pending

-- the entry of the number is there, and can be read
abbrev pub IsReadable : Files → ℕ → Type 0
IsReadable folder number = (entry : Entry) × EntrySays (get folder (entry_path number)) entry

-- this is the least of the numbers whose entry isn't there or can't be read
pub record IsLeastUnreadable (folder : Files) (numbers : List ℕ) (number : ℕ) : Type 0 where
  pub among : Contains numbers number
  pub unreadable : ¬ (IsReadable folder number)
  pub first : (other : ℕ) → Contains numbers other → other < number → IsReadable folder other

-- the path is that of its entry
abbrev pub IsFirstUnreadable : Files → List ℕ → List ℕ → Type 0
IsFirstUnreadable folder numbers path =
    (number : ℕ) × (path ≡ entry_path number) × IsLeastUnreadable folder numbers number

-- no file stands above the journal: neither `.reuse` nor `.reuse/undo` is one
abbrev pub NoFileAbove : Files → Type 0
NoFileAbove files = (get files above_journal ≡ None) × (get files journal_folder ≡ None)

-- the path is the first at fault in the folder of the journal: the head where it can't be read, else the entry of the
-- least number that the head names and whose entry can't be read
abbrev pub IsFirstBadIn : Files → List ℕ → Type 0
IsFirstBadIn folder path =
    ((path ≡ head_path) × ((head : Head) → ¬ (HeadSays (get folder head_path) head)))
    ⊎ ((head : Head) × HeadSays (get folder head_path) head × IsFirstUnreadable folder (named head) path)

-- the path is the first at fault: `.reuse` where it is a file, else `.reuse/undo` where it is one, else the first in
-- that folder
abbrev pub IsFirstBad : Files → List ℕ → Type 0
IsFirstBad files path =
    ((path ≡ above_journal) × IsSome (get files path))
    ⊎ ((get files above_journal ≡ None) × (path ≡ journal_folder) × IsSome (get files path))
    ⊎ (NoFileAbove files × IsFirstBadIn (undo_folder_of files) path)

-- The journal is without fault and a step is pending in it; the path is that of its first change that is neither made
-- nor not made, or that can't be rolled back.
pub record IsStuckAt (files : Files) (path : List ℕ) : Type 0 where
  pub above : NoFileAbove files
  pub journal : Journal
  pub direction : PendingDirection
  pub step : Recorded
  pub keeps : KeepsJournal (undo_folder_of files) journal
      (Some (record { entry = number_of step; direction = direction }))
  pub kept : IsKeptIn (undo_folder_of files) step
  pub stuck : IsFirstWithout (CanBeRolledBack (direction_of direction) (tree_of files)) step.changes path

-- the files are this committed state, or a step is pending from it
abbrev pub CanOpenOn : Files → State → Type 0
CanOpenOn files held =
    IsCommittedState files held
    ⊎ ((direction : PendingDirection) × (step : Recorded) × IsPending direction step held files)

-- What opening these files answers, where it reports neither an I/O error nor an allocation failure: a bad journal
-- exactly at the first path at fault, else a path that moved exactly where the pending step is stuck, else a session.
pub record OpensAs {A : Type 0} (files : Files) (answer : Result A Refusal) : Type 0 where
  pub bad : (path : List ℕ) → (answer ≡ Err (BadJournal path)) ↔ IsFirstBad files path
  pub moved : (path : List ℕ) → (answer ≡ Err (Moved path)) ↔ IsStuckAt files path
  pub opened : IsOk answer ↔ ((held : State) × CanOpenOn files held)

-- The files were this committed state, and are. Or a step was pending from it; then its files are rolled back.
abbrev pub OpensOn : Files → State → Files → Type 0
OpensOn before held after =
    (IsCommittedState before held × (after ≡ before))
    ⊎ ((direction : PendingDirection) × (step : Recorded) × IsPending direction step held before
    × IsCommittedState after held)

-- A step was pending from a committed state. It is still, or its files are rolled back.
abbrev pub StopsOpening : Files → Files → Type 0
StopsOpening before after =
    (held : State) × (direction : PendingDirection) × (step : Recorded)
    × IsPending direction step held before × (IsCommittedState after held ⊎ IsPending direction step held after)

-- the head reports a step as pending, which is that of this entry
pub record IsPendingIn (folder : Files) (entry : Entry) : Type 0 where
  pub head : Head
  pub pending : Pending
  pub says : HeadSays (get folder head_path) head
  pub states : head.pending ≡ Some pending
  pub is : EntrySays (get folder (entry_path pending.entry)) entry

-- no put and no removal is asked for; or at most one for each change of such an entry, and one for the head
abbrev pub MutationsFor : {S : Type 0} → Ghosts S → (Entry → Type 0) → S → S → Type 0
MutationsFor store IsIt old new = (store.mutations new ≡ store.mutations old)
    ⊎ ((entry : Entry) × IsIt entry × (store.mutations new ≤ store.mutations old + length entry.changes + 1))

-- what opening asks for
abbrev pub MutationsToOpen : {S : Type 0} → Ghosts S → S → S → Type 0
MutationsToOpen store old new = MutationsFor store (IsPendingIn (undo_folder_of (store.files old))) old new

-- ---- for private clauses

-- what the entry of a number is listed as
abbrev pub listed_entry : ℕ → Entry → ListedEntry
listed_entry number entry =
    record { number = number; when = entry.when; command = entry.command; count = length entry.changes }

abbrev pub IsListedIn : Files → ℕ → ListedEntry → Type 0
IsListedIn folder number listed =
    (entry : Entry) × EntrySays (get folder (entry_path number)) entry × (listed ≡ listed_entry number entry)

-- what the entry of the number is listed as, if it can be read
abbrev pub IsFoundAt : Files → ℕ → Option ListedEntry → Type 0
IsFoundAt folder number None = ¬ (IsReadable folder number)
IsFoundAt folder number (Some listed) = IsListedIn folder number listed

-- the least number whose entry can't be read, if there is one
abbrev pub IsLeastFound : Files → List ℕ → Option ℕ → Type 0
IsLeastFound folder numbers None = All (IsReadable folder) numbers
IsLeastFound folder numbers (Some number) = IsLeastUnreadable folder numbers number

-- the lesser of two numbers, of which one may be missing
abbrev pub least : Option ℕ → ℕ → ℕ
least None other = other
least (Some one) other = if nat_lt one other then one else other

-- The files have this journal and report what is pending, and this is remembered of it. Each entry that the head names
-- can be read, and neither the journal's folder nor the one above it is a file.
pub record IsRead (files : Files) (pending : Option Pending) (memory : Memory) (journal : Journal) : Type 0 where
  pub no_reuse : get files above_journal ≡ None
  pub no_undo : get files journal_folder ≡ None
  pub keeps : KeepsJournal (undo_folder_of files) journal pending
  pub readable : All (IsReadable (undo_folder_of files)) (pending_numbers pending)
  pub remembers : Remembers memory journal

-- what the head has pending was so from the committed state that the files are then
abbrev pub IsSettled : Pending → Journal → Files → Files → Type 0
IsSettled pending journal before after =
    (step : Recorded) × (number_of step ≡ pending.entry)
    × IsPending pending.direction step (record { tree = tree_of after; journal = journal }) before
    × IsCommittedState after (record { tree = tree_of after; journal = journal })
