use Rattle.std.proofs.Common.{◌≡◌, List, drop, map}
use Rattle.std.specs.List.{All}
use Rattle.reuse_store.specs.Asked.{OnlyReads}
use Rattle.reuse_change.specs.Entry.{paths_of}
use Rattle.reuse_change.specs.Tree.{undo_folder_of}
use Rattle.reuse_journal.specs.Journal.{Recorded}
use Rattle.reuse_journal.specs.JournalFiles.{number_of, IsKeptIn}
use Rattle.reuse_session.proofs.lemmas.session.LaterSteps.{left_by}
use Rattle.reuse_session.proofs.session.later_steps.touched_paths.Given as goal

-- the store is read alone, and the steps that are left leave of the paths what all of them leave
abbrev pub invariant-loop-number : goal.invariant-loop-number
invariant-loop-number g l = record {
  reads : OnlyReads g.S.Store l.fn.store l.store;
  left : g.S.Store.honest l.store → (steps : List Recorded) → l.later ≡ map number_of steps
      → All (IsKeptIn (undo_folder_of (g.S.Store.files l.fn.store))) steps
      → left_by (drop l.number-index steps) l.left.items ≡ left_by steps (paths_of l.changes);
}
