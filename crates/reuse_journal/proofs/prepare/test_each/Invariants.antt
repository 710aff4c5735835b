use Rattle.std.proofs.Common.{take}
use Rattle.std.specs.List.{All}
use Rattle.reuse_change.specs.Files.{tree_of}
use Rattle.reuse_change.specs.Entry.{IsEntry}
use Rattle.reuse_journal.specs.Tested.{Passes}
use Rattle.reuse_store.specs.Asked.{OnlyReads}
use Rattle.reuse_journal.proofs.prepare.test_each.Given as goal

-- the files stay, and the changes so far pass
abbrev pub invariant-loop-change : goal.invariant-loop-change
invariant-loop-change g l =
    let store = g.S.Store in
    record {
      reads : OnlyReads store l.fn.store l.store;
      ready : store.honest l.store → IsEntry l.changes
          → All (Passes l.check l.direction (tree_of (store.files l.fn.store))) (take l.change-index l.changes);
    }
