use Rattle.std.proofs.Common.{◌≡◌, ◌++◌, Bor, true, false, map, take}
use Rattle.reuse_journal.specs.History.{row_listing}
use Rattle.reuse_journal.specs.declared.history.ListedEntry.{ListedEntry}
use Rattle.reuse_journal.proofs.history.History.rows.Given as goal

abbrev pub invariant-loop-entry : goal.invariant-loop-entry
invariant-loop-entry l =
    (l.entry-items ≡ l.self.done) × (l.rows.items ≡ map (row_listing true) (take l.entry-index l.self.done))

abbrev pub invariant-loop-entry-2 : goal.invariant-loop-entry-2
invariant-loop-entry-2 l = l.rows.items ≡ map (row_listing true) l.self.done ++ map (row_listing false)
    (map (λ (entry : Bor ListedEntry). entry.now) l.yielded)
