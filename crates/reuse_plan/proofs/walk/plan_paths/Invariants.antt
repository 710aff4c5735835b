use Rattle.std.proofs.Common.{drop, map}
use Rattle.reuse_plan.specs.Shown.{ShowsEach}
use Rattle.reuse_command.specs.Reading.{OnlyReads, tree_of}
use Rattle.reuse_plan.specs.FileTask.{at_by}
use Rattle.reuse_plan.proofs.PathPlanning.{WalkedSoFar}
use Rattle.reuse_plan.proofs.walk.plan_paths.Given as goal

-- the store is read alone, and the plans so far are of the paths so far
abbrev pub invariant-loop-path : goal.invariant-loop-path
invariant-loop-path g l = record {
  reads : OnlyReads g.S.Store l.initial.store l.store;
  so_far : g.S.Store.honest l.store → ShowsEach l.listing (tree_of (g.S.Store.files l.initial.store)) l.selected
      → WalkedSoFar l.policy (tree_of (g.S.Store.files l.initial.store))
      (map (at_by l.asked (tree_of (g.S.Store.files l.initial.store))) l.selected)
      (map (at_by l.asked (tree_of (g.S.Store.files l.initial.store))) (drop l.path-index l.selected)) l.plans.items;
}
