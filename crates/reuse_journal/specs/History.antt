-- What a session remembers of the journal.
use Rattle.std.specs.Prelude.{ℕ, ◌+◌, ◌==◌, not, take_while, List, [], ◌∷◌, ◌++◌, map, reverse, Bool, true, false}
use Rattle.std.specs.Prelude.{Option}
use Rattle.reuse_journal.specs.Labels.{row_of}
use Rattle.reuse_change.specs.declared.direction.Direction.{Direction}
use Rattle.reuse_change.specs.declared.direction.Direction.TheVariants.{Forward, Backward}
use Rattle.reuse_journal.specs.declared.history.ListedEntry.{ListedEntry}
use Rattle.reuse_tree.specs.declared.journal.head.Head.{Head}
use Rattle.reuse_tree.specs.declared.journal.head.Pending.{Pending}
use Rattle.reuse_command.specs.declared.reply.Row.{Row}

-- the entries done, the oldest first, those undone, the next to be redone last, and how many numbers are used
pub record Memory : Type 0 where
  pub done : List ListedEntry
  pub undone : List ListedEntry
  pub used : ℕ

-- the head that lists them
abbrev pub head_listing : Memory → Option Pending → Head
head_listing memory pending = record {
  done = map (λ (entry : ListedEntry). entry.number) memory.done;
  undone = map (λ (entry : ListedEntry). entry.number) memory.undone;
  next = memory.used + 1;
  pending = pending;
}

-- the row of an entry
abbrev pub row_listing : Bool → ListedEntry → Row
row_listing done entry =
    row_of (record { number = entry.number; when = entry.when; command = entry.command }) entry.count done

-- the rows of a log
abbrev pub rows_listing : Memory → List Row
rows_listing memory = map (row_listing true) memory.done ++ map (row_listing false) (reverse memory.undone)

-- the numbers of the entries that were done after that of the number, the newest first
abbrev pub numbers_after : List ListedEntry → ℕ → List ℕ
numbers_after done number = map (λ (entry : ListedEntry). entry.number)
    (take_while (λ (entry : ListedEntry). not (entry.number == number)) (reverse done))

-- what is remembered after a run: a new entry is done, and none is undone
abbrev pub remember_run : Memory → ListedEntry → Memory
remember_run memory entry = record { done = memory.done ++ entry ∷ []; undone = []; used = memory.used + 1 }

-- the entries that a way goes on with, the next last: back over those done, and on over those undone
abbrev pub entries_ahead : Direction → Memory → List ListedEntry
entries_ahead Backward memory = memory.done
entries_ahead Forward memory = memory.undone

-- what is remembered after the last of them, given those before it
abbrev pub remember_moved : Direction → List ListedEntry → ListedEntry → Memory → Memory
remember_moved Backward front entry memory =
    record { done = front; undone = memory.undone ++ entry ∷ []; used = memory.used }
remember_moved Forward front entry memory =
    record { done = memory.done ++ entry ∷ []; undone = front; used = memory.used }
