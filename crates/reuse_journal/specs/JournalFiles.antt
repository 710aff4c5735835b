-- The journal in files: a head, and a file for each entry, in the folder `.reuse/undo`.
use Rattle.std.specs.Prelude.{◌≡◌, ◌⊎◌, ◌<◌, ◌≤◌, ℕ, ◌+◌, List, [], map, reverse, Option, Some, None, IsSome, IsTrue}
use Rattle.std.specs.List.{All}
use Rattle.std.specs.FinMap.{get}
pub use Rattle.reuse_change.specs.Layout.{digit, entry_path, head_path, six_digits}
use Rattle.reuse_change.specs.declared.layout.TheConstants.{LAST_NUMBER}
use Rattle.reuse_change.specs.Path.{lies_under}
use Rattle.reuse_change.specs.Files.{Files}
use Rattle.reuse_tree.specs.Head.{IsGoodHead}
use Rattle.reuse_json.specs.EntryText.{IsGoodEntry}
use Rattle.reuse_journal.specs.Journal.{Recorded, Journal}
use Rattle.reuse_tree.specs.declared.journal.head.Head.{Head}
use Rattle.reuse_tree.specs.declared.journal.head.Pending.{Pending}
use Rattle.reuse_json.specs.declared.entry.Entry.{Entry}

-- ---- their paths

-- the path of a file of the journal: the head, or an entry by a number that is given out
abbrev pub IsJournalPath : List ℕ → Type 0
IsJournalPath path =
    (path ≡ head_path) ⊎ ((number : ℕ) × (0 < number) × (number ≤ LAST_NUMBER) × (path ≡ entry_path number))

-- no path of a file of the journal is a folder
abbrev pub IsFree : Files → Type 0
IsFree folder =
    (path other : List ℕ) → IsJournalPath path → IsSome (get folder other) → ¬ (IsTrue (lies_under other path))

-- ---- what they say

-- the head of an empty journal, which needs no file
abbrev pub empty_head : Head
empty_head = record { done = []; undone = []; next = 1; pending = None }

-- the file of the head says this
abbrev pub HeadSays : Option (List ℕ) → Head → Type 0
HeadSays None head = head ≡ empty_head
HeadSays (Some text) head = IsGoodHead text head

-- the file of an entry says this
abbrev pub EntrySays : Option (List ℕ) → Entry → Type 0
EntrySays None entry = ⊥
EntrySays (Some text) entry = IsGoodEntry text entry

-- a step as an entry
abbrev pub entry_in : Recorded → Entry
entry_in step = record { changes = step.changes; command = step.label.command; when = step.label.when }

-- the number of a step
abbrev pub number_of : Recorded → ℕ
number_of step = step.label.number

-- the step's entry is in the folder
abbrev pub IsKeptIn : Files → Recorded → Type 0
IsKeptIn folder step = EntrySays (get folder (entry_path (number_of step))) (entry_in step)

-- the head that lists the steps of a journal, and reports what is pending; it lists the undone ones the next to be
-- redone last
abbrev pub head_of : Journal → Option Pending → Head
head_of journal pending = record {
  done = map number_of (reverse journal.done);
  undone = map number_of (reverse journal.undone);
  next = journal.used + 1;
  pending = pending;
}

-- the folder has this journal, and reports what is pending
pub record KeepsJournal (folder : Files) (journal : Journal) (pending : Option Pending) : Type 0 where
  pub head : HeadSays (get folder head_path) (head_of journal pending)
  pub done : All (IsKeptIn folder) journal.done
  pub undone : All (IsKeptIn folder) journal.undone
