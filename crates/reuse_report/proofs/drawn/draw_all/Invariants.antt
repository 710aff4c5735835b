use Rattle.std.proofs.Common.{◌≡◌, take}
use Rattle.reuse_store.specs.Asked.{OnlyReads}
use Rattle.reuse_change.specs.Files.{Files, tree_of}
use Rattle.reuse_report.specs.Drawn.{AreDiffs, AreSmallSteps}
use Rattle.reuse_report.proofs.drawn.draw_all.Given as goal

-- so far was only read, and the diffs of the changes so far are drawn
abbrev pub invariant-loop-change : goal.invariant-loop-change
invariant-loop-change g l = record {
  reads : OnlyReads g.S.Store l.initial.store l.store;
  drawn : g.S.Store.honest l.store → (before after : Files) → tree_of (g.S.Store.files l.initial.store) ≡ before
      → AreSmallSteps l.direction l.changes before after
      → AreDiffs before after (take l.change-index l.changes) l.text.items;
}
