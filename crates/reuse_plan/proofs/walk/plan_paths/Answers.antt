use Rattle.std.proofs.Common.{◌≡◌, ◌+◌, ◌∷◌, drop, map, sym, subst}
use Rattle.std.proofs.lemmas.List.{drop_all}
use Rattle.reuse_plan.specs.Shown.{ShowsEach, ShowsOne}
use Rattle.reuse_plan.proofs.ShownLemmas.{one_of_each}
use Rattle.reuse_change.specs.Files.{tree_of}
use Rattle.reuse_store.proofs.AskedLemmas.{reads_more}
use Rattle.reuse_plan.specs.FileTask.{at_by}
use Rattle.reuse_edit.specs.PathPlans.{IsPlanOf}
use Rattle.reuse_edit.specs.Answered.{IsRefusalOf}
use Rattle.reuse_plan.proofs.PathPlanning.{WalkedSoFar, after_plan, at_refusal, at_end}
use Rattle.reuse_store.proofs.AtChange.{left_here}
use Rattle.reuse_plan.proofs.walk.plan_paths.Given.{Over}
use Rattle.reuse_plan.proofs.walk.plan_paths.Goals.{After-plan_one}
use Rattle.reuse_plan.proofs.walk.plan_paths.Goals as goal

module _ (g : Over) (c : After-plan_one g) (honest : g.S.Store.honest c.plan_one.new.store)
    (are : ShowsEach c.args.listing.now (tree_of (g.S.Store.files c.args.store.now)) c.args.selected.now) where
  same : g.S.Store.files c.loop-path.store ≡ g.S.Store.files c.args.store.now
  same = c.loop-path.invariant.reads.files (c.plan_one.ensures.asks.reads.was_honest honest)

  -- the path is shown still
  are_still : ShowsOne c.args.listing.now (tree_of (g.S.Store.files c.loop-path.store)) c.path-item.result
  are_still =
      subst (λ f. ShowsOne c.args.listing.now (tree_of f) c.path-item.result) (sym same)
      (one_of_each c.args.listing.now (tree_of (g.S.Store.files c.args.store.now)) c.args.selected.now are
      c.loop-path.path-index c.path-item.result c.loop-path-test.true c.path-item.is)

  so_far : WalkedSoFar c.args.policy (tree_of (g.S.Store.files c.args.store.now))
      (map (at_by c.args.asked.now (tree_of (g.S.Store.files c.args.store.now))) c.args.selected.now)
      (map (at_by c.args.asked.now (tree_of (g.S.Store.files c.args.store.now)))
      (c.path-item.result ∷ drop (c.loop-path.path-index + 1) c.args.selected.now)) c.loop-path.plans.items
  so_far =
      subst (λ left. WalkedSoFar c.args.policy (tree_of (g.S.Store.files c.args.store.now))
      (map (at_by c.args.asked.now (tree_of (g.S.Store.files c.args.store.now))) c.args.selected.now)
      (map (at_by c.args.asked.now (tree_of (g.S.Store.files c.args.store.now))) left) c.loop-path.plans.items)
      (left_here c.args.selected.now c.loop-path.path-index c.loop-path-test.true c.path-item.result c.path-item.is)
      (c.loop-path.invariant.so_far (c.plan_one.ensures.asks.reads.was_honest honest) are)

pub loop-path-preserved : goal.loop-path-preserved
loop-path-preserved g c = record {
  reads = reads_more g.S.Store _ _ _ c.loop-path.invariant.reads c.plan_one.ensures.asks.reads;
  so_far = λ h are.
      let read = (goal.at.loop-path-preserved g c).After-plan_one in
      let at = at_by c.args.asked.now in
      let tree = tree_of (g.S.Store.files c.args.store.now) in
      let is = subst (λ f. IsPlanOf c.args.policy (tree_of f) (at (tree_of f) c.path-item.result) c.in-Ok.plan)
      (same g read h are) (c.in-Ok.ensures.plan h (are_still g read h are)) in
      subst (WalkedSoFar c.args.policy tree (map (at tree) c.args.selected.now)
      (map (at tree) (drop (c.loop-path.path-index + 1) c.args.selected.now))) (sym c.in_ok-push.ensures.items)
      (after_plan c.args.policy tree (map (at tree) c.args.selected.now) (at tree c.path-item.result)
      (map (at tree) (drop (c.loop-path.path-index + 1) c.args.selected.now)) c.loop-path.plans.items c.in-Ok.plan
      (so_far g read h are) is);
}

pub returns-clause-plans : goal.returns-clause-plans
returns-clause-plans g c h are =
    let at = at_by c.args.asked.now in
    let tree = tree_of (g.S.Store.files c.args.store.now) in
    at_end c.args.policy tree (map (at tree) c.args.selected.now) c.loop-path.plans.items
    (subst (λ left. WalkedSoFar c.args.policy tree (map (at tree) c.args.selected.now) (map (at tree) left)
    c.loop-path.plans.items) (drop_all c.loop-path.path-index c.args.selected.now c.loop-path-test.false)
    (c.loop-path.invariant.so_far h are))

pub returns-in-Err-clause-plans : goal.returns-in-Err-clause-plans
returns-in-Err-clause-plans g c h are =
    let read = (goal.at.returns-in-Err-clause-plans g c).After-plan_one in
    let at = at_by c.args.asked.now in
    let tree = tree_of (g.S.Store.files c.args.store.now) in
    at_refusal c.args.policy tree (map (at tree) c.args.selected.now) (at tree c.path-item.result)
    (map (at tree) (drop (c.loop-path.path-index + 1) c.args.selected.now)) c.loop-path.plans.items c.in-Err.refusal
    (so_far g read h are) c.in-Err.ensures.asks.kinds
    (subst (λ f. IsRefusalOf (at (tree_of f) c.path-item.result).edit c.in-Err.refusal) (same g read h are)
    (c.in-Err.ensures.plan h (are_still g read h are)))
