use Rattle.std.proofs.Common.{sym, subst}
use Rattle.reuse_edit.specs.Answered.{IsRefusalOf}
use Rattle.reuse_command.specs.Answer.{IsNoFailure}
use Rattle.reuse_edit.proofs.PathPlanLemmas.{reported_is}
use Rattle.reuse_edit.proofs.path_plan.Policy.refused.Goals as goal

pub returns-in_ok-unless_failure-in-Collect-clause-plan : goal.returns-in_ok-unless_failure-in-Collect-clause-plan
returns-in_ok-unless_failure-in-Collect-clause-plan c tree here is =
    let reported = c.in_ok-unless_failure-in-Collect.ensures.reported in (
      reported_is here.edit c.in_ok-unless_failure-in-Collect.field-0 reported.1
          (subst (IsRefusalOf here.edit) (sym reported.0) is),
      reported.1,
      c.in-Collect.is,
    )

pub returns-in_ok-unless_failure-in-Collect-clause-reported :
    goal.returns-in_ok-unless_failure-in-Collect-clause-reported
returns-in_ok-unless_failure-in-Collect-clause-reported c = subst IsNoFailure
    c.in_ok-unless_failure-in-Collect.ensures.reported.0 c.in_ok-unless_failure-in-Collect.ensures.reported.1
