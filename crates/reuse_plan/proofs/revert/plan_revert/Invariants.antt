use Rattle.std.proofs.Common.{drop, map}
use Rattle.reuse_command.specs.Reading.{OnlyReads, tree_of}
use Rattle.reuse_plan.specs.Reverting.{reverted_at}
use Rattle.reuse_plan.proofs.PathPlanning.{WalkedSoFar}
use Rattle.reuse_plan.proofs.revert.plan_revert.Given as goal

-- the store is read alone, and the plans so far are of the changes gone through
abbrev pub invariant-loop-change : goal.invariant-loop-change
invariant-loop-change g l = record {
  reads : OnlyReads g.S.Store l.initial.store l.store;
  so_far : g.S.Store.honest l.store
      → WalkedSoFar l.policy (tree_of (g.S.Store.files l.initial.store))
      (map (reverted_at l.touched l.skip_moved (tree_of (g.S.Store.files l.initial.store))) l.changes)
      (map (reverted_at l.touched l.skip_moved (tree_of (g.S.Store.files l.initial.store)))
      (drop l.change-index l.changes)) l.plans.items;
}
