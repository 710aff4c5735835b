use Rattle.std.proofs.Common.{take}
use Rattle.reuse_store.specs.Asked.{Leaves}
use Rattle.reuse_change.specs.Files.{Files, tree_of}
use Rattle.reuse_store.specs.Durable.{IsMidway}
use Rattle.reuse_change.specs.Tree.{undo_folder_of}
use Rattle.reuse_store.specs.Apply.{NotesMutations}
use Rattle.reuse_change.specs.Entry.{IsEntry, ArePartlyMade}
use Rattle.reuse_store.proofs.AtChange.{StaysBeside}
use Rattle.reuse_journal.proofs.roll_back.roll_back_changes.Given as goal

-- the changes so far are taken back or weren't made, and the folder of the journal stays
abbrev pub invariant-loop-change : goal.invariant-loop-change
invariant-loop-change g l =
    let store = g.S.Store in
    record {
      notes : NotesMutations g.S.Store l.fn.started l.started l.fn.store l.store;
      walk : StaysBeside store l.fn.store l.store l.changes l.change-index;
      left : store.honest l.store → IsEntry l.changes → (start : Files)
          → ArePartlyMade l.direction l.changes start (tree_of (store.files l.fn.store))
          → Leaves store l.fn.store (IsMidway l.direction l.changes start (undo_folder_of (store.files l.fn.store)))
          → Leaves store l.store (IsMidway l.direction l.changes start (undo_folder_of (store.files l.fn.store)));
      back : store.honest l.store → IsEntry l.changes → ArePartlyMade l.direction (take l.change-index l.changes)
          (tree_of (store.files l.store)) (tree_of (store.files l.fn.store));
    }
