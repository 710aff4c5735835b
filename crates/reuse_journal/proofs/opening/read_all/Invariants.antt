use Rattle.std.proofs.Common.{◌≡◌, None, length, take}
use Rattle.std.specs.List.{AllZip}
use Rattle.reuse_store.specs.Asked.{OnlyReads}
use Rattle.reuse_journal.specs.Opening.{IsListedIn, IsLeastFound}
use Rattle.reuse_change.specs.Tree.{undo_folder_of}
use Rattle.reuse_journal.proofs.opening.read_all.Given as goal

-- the numbers so far are read
abbrev pub invariant-loop-number : goal.invariant-loop-number
invariant-loop-number g l =
    let store = g.S.Store in
    record {
      reads : OnlyReads g.S.Store l.fn.store l.store;
      long : l.unreadable ≡ None → length l.entries.items ≡ length (take l.number-index l.numbers);
      listed : store.honest l.store → l.unreadable ≡ None → AllZip
          (IsListedIn (undo_folder_of (store.files l.fn.store))) (take l.number-index l.numbers) l.entries.items;
      found : store.honest l.store
          → IsLeastFound (undo_folder_of (store.files l.fn.store)) (take l.number-index l.numbers) l.unreadable;
    }
