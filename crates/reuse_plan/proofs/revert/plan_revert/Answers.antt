use Rattle.std.proofs.Common.{◌+◌, ◌∷◌, drop, map, sym, ap, subst}
use Rattle.std.proofs.lemmas.List.{drop_all}
use Rattle.reuse_change.specs.Files.{tree_of}
use Rattle.reuse_store.proofs.AskedLemmas.{reads_more}
use Rattle.reuse_store.proofs.AtChange.{left_here, tested_from}
use Rattle.reuse_edit.specs.Answered.{MakesEdit}
use Rattle.reuse_plan.specs.Reverting.{reverted_at, taken_back_unless}
use Rattle.reuse_plan.proofs.PathPlanning.{WalkedSoFar, after_plan, at_refusal, at_end}
use Rattle.reuse_plan.proofs.RevertPlanning.{found}
use Rattle.reuse_plan.proofs.revert.plan_revert.Given.{Over}
use Rattle.reuse_plan.proofs.revert.plan_revert.Goals.{In-Ok}
use Rattle.reuse_plan.proofs.revert.plan_revert.Goals as goal

-- what is known of a change once what takes it back is found
module _ (g : Over) (c : In-Ok g) (honest : g.S.Store.honest c.take_back.new.store) where
  so_far : WalkedSoFar c.args.policy (tree_of (g.S.Store.files c.args.store.now)) (map (reverted_at c.args.touched.now
      c.args.skip_moved (tree_of (g.S.Store.files c.args.store.now))) c.args.changes.now)
      (map (reverted_at c.args.touched.now c.args.skip_moved (tree_of (g.S.Store.files c.args.store.now)))
      (c.change-item.result ∷ drop (c.loop-change.change-index + 1) c.args.changes.now)) c.loop-change.plans.items
  so_far =
      subst (λ left. WalkedSoFar c.args.policy (tree_of (g.S.Store.files c.args.store.now)) (map (reverted_at
      c.args.touched.now c.args.skip_moved (tree_of (g.S.Store.files c.args.store.now))) c.args.changes.now)
      (map (reverted_at c.args.touched.now c.args.skip_moved (tree_of (g.S.Store.files c.args.store.now))) left)
      c.loop-change.plans.items)
      (left_here c.args.changes.now c.loop-change.change-index c.loop-change-test.true c.change-item.result
      c.change-item.is)
      (c.loop-change.invariant.so_far (c.take_back.ensures.asks.reads.was_honest honest))

  makes_it : MakesEdit (tree_of (g.S.Store.files c.args.store.now)) (found (taken_back_unless c.args.touched.now
      (tree_of (g.S.Store.files c.args.store.now)) c.change-item.result)) c.in-Ok.back
  makes_it =
      tested_from c.args.changes.now c.loop-change.change-index c.loop-change-test.true c.change-item.result
      c.change-item.is
      (λ tree. MakesEdit tree (found (taken_back_unless c.args.touched.now tree c.change-item.result)) c.in-Ok.back)
      (tree_of (g.S.Store.files c.args.store.now)) (tree_of (g.S.Store.files c.loop-change.store)) c.requires
      (ap tree_of (c.loop-change.invariant.reads.files (c.take_back.ensures.asks.reads.was_honest honest)))
      (c.in-Ok.ensures.edit honest)

pub loop-change-preserved : goal.loop-change-preserved
loop-change-preserved g c = record {
  reads = reads_more g.S.Store _ _ _ c.loop-change.invariant.reads c.take_back.ensures.asks.reads;
  so_far = λ honest.
      let at = (goal.at.loop-change-preserved g c).In-Ok in
      let tree = tree_of (g.S.Store.files c.args.store.now) in
      let done = reverted_at c.args.touched.now c.args.skip_moved tree in
      subst (WalkedSoFar c.args.policy tree (map done c.args.changes.now)
      (map done (drop (c.loop-change.change-index + 1) c.args.changes.now))) (sym c.in_ok-push.ensures.items)
      (after_plan c.args.policy tree (map done c.args.changes.now) (done c.change-item.result) (map done
      (drop (c.loop-change.change-index + 1) c.args.changes.now)) c.loop-change.plans.items c.in-Ok-plan_back.plan
      (so_far g at honest) (c.in-Ok-plan_back.ensures.plan c.args.touched.now tree (makes_it g at honest)));
}

pub returns-clause-plans : goal.returns-clause-plans
returns-clause-plans g c honest =
    let tree = tree_of (g.S.Store.files c.args.store.now) in
    let done = reverted_at c.args.touched.now c.args.skip_moved tree in
    at_end c.args.policy tree (map done c.args.changes.now) c.loop-change.plans.items
    (subst (λ left. WalkedSoFar c.args.policy tree (map done c.args.changes.now) (map done left)
    c.loop-change.plans.items) (drop_all c.loop-change.change-index c.args.changes.now c.loop-change-test.false)
    (c.loop-change.invariant.so_far honest))

pub returns-in-Err-plan_back-clause-plans : goal.returns-in-Err-plan_back-clause-plans
returns-in-Err-plan_back-clause-plans g c honest =
    let at = (goal.at.returns-in-Err-plan_back-clause-plans g c).In-Ok in
    let tree = tree_of (g.S.Store.files c.args.store.now) in
    let done = reverted_at c.args.touched.now c.args.skip_moved tree in
    at_refusal c.args.policy tree (map done c.args.changes.now) (done c.change-item.result) (map done
    (drop (c.loop-change.change-index + 1) c.args.changes.now)) c.loop-change.plans.items c.in-Err-plan_back.refusal
    (so_far g at honest) c.in-Err-plan_back.ensures.ends
    (c.in-Err-plan_back.ensures.plan c.args.touched.now tree (makes_it g at honest))
