-- Entries by their numbers, in what is remembered of a journal, and steps by theirs.
use Rattle.std.specs.Prelude.{ℕ, Bool, ◌==◌, List, ◌||◌, not, ◌++◌, map, filter, find, Option, true, false, Some, None}
use Rattle.std.specs.List.{list_any}
use Rattle.reuse_journal.specs.declared.history.ListedEntry.{ListedEntry}
use Rattle.reuse_journal.specs.History.{Memory, row_listing}
use Rattle.reuse_journal.specs.Journal.{Journal, Recorded, State}
use Rattle.reuse_journal.specs.JournalFiles.{number_of}
use Rattle.reuse_command.specs.declared.reply.Row.{Row}

-- one of the entries has the number
abbrev pub lists : List ListedEntry → ℕ → Bool
lists entries number = list_any (λ (entry : ListedEntry). entry.number == number) entries

-- whether the number is one of these
abbrev pub is_one_of : List ℕ → ℕ → Bool
is_one_of numbers number = list_any (λ other. other == number) numbers

-- whether an entry that is done or undone has the number
abbrev pub is_listed : Memory → ℕ → Bool
is_listed memory number = lists memory.done number || lists memory.undone number

-- the first of the numbers that no entry has
abbrev pub first_unlisted : Memory → List ℕ → Option ℕ
first_unlisted memory numbers = find (λ number. not (is_listed memory number)) numbers

-- the entries whose number is none of these
abbrev pub entries_besides : List ℕ → List ListedEntry → List ListedEntry
entries_besides numbers entries = filter (λ (entry : ListedEntry). not (is_one_of numbers entry.number)) entries

abbrev pub memory_besides : List ℕ → Memory → Memory
memory_besides numbers memory = record {
  done = entries_besides numbers memory.done;
  undone = entries_besides numbers memory.undone;
  used = memory.used;
}

-- the steps whose number is none of these
abbrev pub steps_besides : List ℕ → List Recorded → List Recorded
steps_besides numbers steps = filter (λ (step : Recorded). not (is_one_of numbers (number_of step))) steps

-- the journal without the steps of these numbers, of which none is given out again
abbrev pub journal_besides : List ℕ → Journal → Journal
journal_besides numbers journal = record {
  done = steps_besides numbers journal.done;
  undone = steps_besides numbers journal.undone;
  used = journal.used;
}

-- the same tree, beside that journal
abbrev pub state_besides : List ℕ → State → State
state_besides numbers state = record { tree = state.tree; journal = journal_besides numbers state.journal }

-- the numbers of all entries
abbrev pub all_numbers : Memory → List ℕ
all_numbers memory =
    map (λ (entry : ListedEntry). entry.number) memory.done ++ map (λ (entry : ListedEntry). entry.number) memory.undone

-- ---- for private clauses

-- the first entry of the number
abbrev pub entry_of : List ListedEntry → ℕ → Option ListedEntry
entry_of entries number = find (λ (entry : ListedEntry). entry.number == number) entries

-- its row, of the entries done and then of those undone
abbrev pub row_among : Option ListedEntry → Option ListedEntry → Option Row
row_among (Some entry) other = Some (row_listing true entry)
row_among None (Some entry) = Some (row_listing false entry)
row_among None None = None

abbrev pub row_in : Memory → ℕ → Option Row
row_in memory number = row_among (entry_of memory.done number) (entry_of memory.undone number)
