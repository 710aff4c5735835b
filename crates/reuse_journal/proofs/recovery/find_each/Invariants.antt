use Rattle.std.proofs.Common.{drop}
use Rattle.reuse_change.specs.Entry.{IsEntry}
use Rattle.reuse_change.specs.Files.{tree_of}
use Rattle.reuse_store.specs.Asked.{OnlyReads}
use Rattle.reuse_journal.proofs.Recovering.{AreFoundSoFar}
use Rattle.reuse_journal.proofs.recovery.find_each.Given as goal

-- the files stay, and these were found of the changes so far
abbrev pub invariant-loop-change : goal.invariant-loop-change
invariant-loop-change g l =
    let store = g.S.Store in
    record {
      reads : OnlyReads store l.fn.store l.store;
      found : store.honest l.store → IsEntry l.changes → AreFoundSoFar l.direction (tree_of (store.files l.fn.store))
          l.changes (drop l.change-index l.changes) l.found.changed.items l.found.skipped.items;
    }
