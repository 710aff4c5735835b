-- What is remembered of a journal, and the texts that its files have.
use Rattle.std.specs.Prelude.{◌≡◌, ◌≢◌, ℕ, ◌+◌, ◌*◌, List, length, map, reverse, Some, None}
use Rattle.std.specs.FinMap.{get}
use Rattle.reuse_change.specs.Files.{Files}
use Rattle.reuse_json.specs.EntryText.{entry_text}
use Rattle.reuse_tree.specs.Head.{head_text}
use Rattle.reuse_journal.specs.History.{Memory, head_listing}
use Rattle.reuse_journal.specs.Journal.{Recorded, Journal}
use Rattle.reuse_journal.specs.JournalFiles.{head_path, entry_path}
use Rattle.reuse_journal.specs.declared.history.ListedEntry.{ListedEntry}
use Rattle.reuse_json.specs.declared.entry.Entry.{Entry}

-- a step as an entry that the head lists
abbrev pub listed_as : Recorded → ListedEntry
listed_as step = record {
  number = step.label.number;
  when = step.label.when;
  command = step.label.command;
  count = length step.changes;
}

-- this is remembered of the journal
pub record Remembers (memory : Memory) (journal : Journal) : Type 0 where
  pub done : memory.done ≡ map listed_as (reverse journal.done)
  pub undone : memory.undone ≡ map listed_as (reverse journal.undone)
  pub used : memory.used ≡ journal.used

-- no path but this one holds something else
abbrev pub IsSameBut : List ℕ → Files → Files → Type 0
IsSameBut path before after = (other : List ℕ) → other ≢ path → get after other ≡ get before other

-- no path but these two holds something else
abbrev pub IsSameButTwo : (one two : List ℕ) → Files → Files → Type 0
IsSameButTwo one two before after = (other : List ℕ) → other ≢ one → other ≢ two → get after other ≡ get before other

-- the head's file is the very text that lists what is remembered, with nothing pending
abbrev pub HasHeadText : Memory → Files → Type 0
HasHeadText memory files = get files head_path ≡ Some (head_text (head_listing memory None))

-- the file of this number is the very text of the entry
abbrev pub HasEntryText : ℕ → Entry → Files → Type 0
HasEntryText number entry files = get files (entry_path number) ≡ Some (entry_text entry)

-- the bytes that a head of so many entries takes at most
abbrev pub head_room : ℕ → ℕ
head_room entries = 128 + 7 * entries

-- how many entries are remembered
abbrev pub listed_count : Memory → ℕ
listed_count memory = length memory.done + length memory.undone
