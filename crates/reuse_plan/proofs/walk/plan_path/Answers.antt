use Rattle.std.proofs.Common.{None, false, sym, subst}
use Rattle.reuse_change.specs.Files.{tree_of}
use Rattle.reuse_edit.specs.AmendmentPlan.{amended_by}
use Rattle.reuse_plan.specs.FileTask.{at_by}
use Rattle.reuse_edit.specs.PathPlans.{IsPlanOf}
use Rattle.reuse_edit.specs.declared.path_plan.Policy.TheVariants.{Stop}
use Rattle.reuse_plan.proofs.walk.plan_path.Goals as goal

pub returns-in_ok-of_amended-in-Ok-clause-plan : goal.returns-in_ok-of_amended-in-Ok-clause-plan
returns-in_ok-of_amended-in-Ok-clause-plan g c honest are =
    let tree = tree_of (g.S.Store.files c.args.store.now) in
    subst (λ asked. IsPlanOf Stop tree (at_by asked tree c.args.path.now) c.in_ok-of_amended-in-Ok.field-0)
    (sym c.in-Amendment.is)
    (subst (λ b. IsPlanOf Stop tree (record {
      path = c.args.path.now;
      skipped = false;
      harm = None;
      left = b;
      edit = amended_by c.in-Amendment.asked tree c.args.path.now;
    }) c.in_ok-of_amended-in-Ok.field-0) (c.in-Ok.ensures.edit honest are).1
    (c.in_ok-of_amended-in-Ok.ensures tree (amended_by c.in-Amendment.asked tree c.args.path.now)
    (c.in-Ok.ensures.edit honest are).0))
