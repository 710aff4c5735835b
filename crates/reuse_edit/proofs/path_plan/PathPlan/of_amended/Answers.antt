use Rattle.std.proofs.Common.{None, IfOk, false, sym, subst}
use Rattle.reuse_edit.specs.PathPlans.{IsPlanOf}
use Rattle.reuse_edit.specs.declared.path_plan.Policy.TheVariants.{Stop}
use Rattle.reuse_edit.proofs.path_plan.PathPlan.of_amended.Goals as goal

pub returns-else-is_left : goal.returns-else-is_left
returns-else-is_left c tree edit makes =
    subst (λ b. IfOk c.of_change.result (IsPlanOf Stop tree (record {
      path = c.args.path.now;
      skipped = false;
      harm = None;
      left = b;
      edit = edit;
    }))) (sym c.if-is_left.false) (c.of_change.ensures tree edit makes)
