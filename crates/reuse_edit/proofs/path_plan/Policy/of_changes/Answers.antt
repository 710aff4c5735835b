use Rattle.std.proofs.Common.{sym, ap, subst}
use Rattle.reuse_edit.specs.PathEdits.{all_or_none}
use Rattle.reuse_edit.specs.PathPlans.{ArePlansOf}
use Rattle.reuse_edit.specs.Answered.{AnswersEdits}
use Rattle.reuse_edit.proofs.PathPlanLemmas.{all_made, alone_as}
use Rattle.reuse_edit.proofs.path_plan.Policy.of_changes.Goals as goal

pub returns-in_ok-all_changes-in-Ok-clause-plans : goal.returns-in_ok-all_changes-in-Ok-clause-plans
returns-in_ok-all_changes-in-Ok-clause-plans c tree edits given =
    subst (ArePlansOf c.args.self tree (all_or_none edits)) (sym c.in_ok-all_changes-in-Ok.ensures)
    (all_made c.args.self tree edits c.in-Ok.changes.items (subst (AnswersEdits tree edits) c.in-Ok.is given))

pub returns-in-Err-clause-plans : goal.returns-in-Err-clause-plans
returns-in-Err-clause-plans c tree edits given =
    alone_as c.args.self tree edits (all_or_none edits) c.in-Err.refusal c.refused_alone.result
    (subst (AnswersEdits tree edits) c.in-Err.is given) (λ e. ap all_or_none e) c.refused_alone.ensures.reported
    c.refused_alone.ensures.same (c.refused_alone.ensures.plans tree)
