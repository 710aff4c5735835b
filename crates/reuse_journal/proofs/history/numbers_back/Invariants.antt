use Rattle.std.proofs.Common.{◌≡◌, Bor, map}
use Rattle.reuse_journal.specs.declared.history.ListedEntry.{ListedEntry}
use Rattle.reuse_journal.proofs.history.numbers_back.Given as goal

abbrev pub invariant-loop-entry : goal.invariant-loop-entry
invariant-loop-entry l = l.numbers.items ≡ map (λ (entry : ListedEntry). entry.number)
    (map (λ (entry : Bor ListedEntry). entry.now) l.yielded)
