use Rattle.std.proofs.Common.{◌≡◌, map, take}
use Rattle.reuse_journal.specs.declared.history.ListedEntry.{ListedEntry}
use Rattle.reuse_journal.proofs.history.numbers_of.Given as goal

abbrev pub invariant-loop-entry : goal.invariant-loop-entry
invariant-loop-entry l = l.numbers.items ≡ map (λ (entry : ListedEntry). entry.number) (take l.entry-index l.entries)
