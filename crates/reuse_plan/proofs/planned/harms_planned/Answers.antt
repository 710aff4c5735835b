use Rattle.std.proofs.Common.{◌∙◌, ◌++◌, ap, option_to_list}
use Rattle.reuse_plan.specs.Counted.{harmed_planned}
use Rattle.reuse_plan.proofs.Counting.{found_more}
use Rattle.reuse_plan.proofs.planned.harms_planned.Goals as goal

pub loop-plan-preserved : goal.loop-plan-preserved
loop-plan-preserved c =
    found_more harmed_planned c.args.plans.now c.loop-plan.plan-index c.plan-item.result c.loop-plan.harms.items
    c.push_harm.new.harms.items c.loop-plan-test.true c.loop-plan.invariant
    (c.in_ok-push_harm.ensures ∙ ap (λ p. c.loop-plan.harms.items ++ option_to_list (harmed_planned p)) c.plan-item.is)
