use Rattle.std.proofs.Common.{take}
use Rattle.reuse_change.specs.Files.{tree_of}
use Rattle.reuse_change.specs.Entry.{IsEntry}
use Rattle.reuse_plan.specs.PathOutcomes.{ArePathOutcomesOf}
use Rattle.reuse_store.specs.Asked.{OnlyReads}
use Rattle.reuse_session.proofs.session.replay_path_outcomes.replay_path_outcomes.Given as goal

-- the files stay, and the path outcomes so far are those of the changes so far
abbrev pub invariant-loop-change : goal.invariant-loop-change
invariant-loop-change g l =
    let store = g.S.Store in
    record {
      reads : OnlyReads store l.fn.store l.store;
      reported : store.honest l.store → IsEntry l.changes → ArePathOutcomesOf l.direction
          (tree_of (store.files l.fn.store)) (take l.change-index l.changes) l.path_outcomes.items;
    }
