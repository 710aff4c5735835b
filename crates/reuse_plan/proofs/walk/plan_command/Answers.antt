use Rattle.std.proofs.Common.{sym, subst}
use Rattle.reuse_change.specs.Files.{tree_of}
use Rattle.reuse_plan.specs.Conversion.{conversion_edits}
use Rattle.reuse_plan.specs.Outcome.{path_edits_of}
use Rattle.reuse_edit.specs.PathPlans.{AnswersPlans}
use Rattle.reuse_plan.specs.StyleEdits.{style_edits}
use Rattle.reuse_plan.proofs.walk.plan_command.Goals as goal

pub returns-in-ConvertDep5-clause-plans : goal.returns-in-ConvertDep5-clause-plans
returns-in-ConvertDep5-clause-plans g c honest =
    let tree = tree_of (g.S.Store.files c.args.store.now) in
    subst (λ k. AnswersPlans c.args.policy tree (path_edits_of k tree) c.of_changes.result) (sym c.in-ConvertDep5.is)
    (c.of_changes.ensures.plans tree (conversion_edits tree) (c.plan_conversion.ensures.edits honest))

pub returns-in-AddStyles-clause-plans : goal.returns-in-AddStyles-clause-plans
returns-in-AddStyles-clause-plans g c honest =
    let tree = tree_of (g.S.Store.files c.args.store.now) in
    subst (λ k. AnswersPlans c.args.policy tree (path_edits_of k tree) c.of_changes-in-AddStyles.result) (sym c.in-AddStyles.is)
    (c.of_changes-in-AddStyles.ensures.plans tree (style_edits c.in-AddStyles.additions tree)
    (c.plan_style_additions.ensures.edits honest))
