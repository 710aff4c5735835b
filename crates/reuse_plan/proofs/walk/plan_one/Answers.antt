use Rattle.std.proofs.Common.{sym, subst}
use Rattle.reuse_change.specs.Files.{Files, tree_of}
use Rattle.reuse_plan.specs.FileTask.{at_by}
use Rattle.reuse_edit.specs.PathEdits.{PathEdit}
use Rattle.reuse_edit.specs.PathPlans.{AnswersPlan, IsPlanOf}
use Rattle.reuse_edit.specs.declared.path_plan.PathPlan.{PathPlan}
use Rattle.reuse_edit.specs.declared.path_plan.PathPlan.TheVariants as plan
use Rattle.reuse_edit.specs.declared.path_plan.Policy.{Policy}
use Rattle.reuse_plan.specs.Shown.{ShowsOne}
use Rattle.reuse_edit.specs.Pair.{ShowsPair}
use Rattle.reuse_edit.specs.declared.path_plan.Policy.TheVariants.{Stop}
use Rattle.reuse_plan.proofs.walk.plan_one.Goals.{in-Listed, in-Alone}
use Rattle.reuse_plan.proofs.walk.plan_one.Goals as goal

pub returns-in-Err-clause-plan : goal.returns-in-Err-clause-plan
returns-in-Err-clause-plan g c honest are =
    let tree = tree_of (g.S.Store.files c.args.store.now) in
    let here = at_by c.args.asked.now tree c.args.path.now in
    c.refused.ensures.plan tree here (subst (AnswersPlan Stop tree here) c.in-Err.is (elim c.match-listing.branch [
      | in-Listed w ↦
          subst (AnswersPlan Stop tree here) (sym w.planned-is)
          (w.plan_path-planned.ensures.plan (subst g.S.Store.honest w.store-is honest)
          (subst (λ ps. ShowsPair ps tree c.args.path.now) (sym w.as_slice.ensures)
          (subst (λ l. ShowsOne l tree c.args.path.now) w.in-Listed.is are)))
      | in-Alone w ↦ subst (AnswersPlan Stop tree here) (sym w.planned-is)
          (w.plan_alone-planned.ensures.plan (subst g.S.Store.honest w.store-is honest))
    ]))

-- a plan of a walk that ends at the first refusal is one of each walk
of_each : (policy : Policy) (tree : Files) (here : PathEdit) (planned : PathPlan)
    → IsPlanOf Stop tree here planned → IsPlanOf policy tree here planned
of_each policy tree here (plan.Change change harm) is = is
of_each policy tree here (plan.Unchanged path) is = is
of_each policy tree here (plan.Left path change) is = is
of_each policy tree here (plan.Skipped path) is = is
of_each policy tree here (plan.Refused refusal) is = absurd (let stops = is.2 in cc)

pub returns-in-Ok-clause-plan : goal.returns-in-Ok-clause-plan
returns-in-Ok-clause-plan g c honest are =
    let tree = tree_of (g.S.Store.files c.args.store.now) in
    let here = at_by c.args.asked.now tree c.args.path.now in
    of_each c.args.policy tree here c.in-Ok.plan (subst (AnswersPlan Stop tree here) c.in-Ok.is
    (elim c.match-listing.branch [
      | in-Listed w ↦
          subst (AnswersPlan Stop tree here) (sym w.planned-is)
          (w.plan_path-planned.ensures.plan (subst g.S.Store.honest w.store-is honest)
          (subst (λ ps. ShowsPair ps tree c.args.path.now) (sym w.as_slice.ensures)
          (subst (λ l. ShowsOne l tree c.args.path.now) w.in-Listed.is are)))
      | in-Alone w ↦ subst (AnswersPlan Stop tree here) (sym w.planned-is)
          (w.plan_alone-planned.ensures.plan (subst g.S.Store.honest w.store-is honest))
    ]))
