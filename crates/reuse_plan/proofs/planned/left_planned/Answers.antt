use Rattle.std.proofs.Common.{◌∙◌, ◌++◌, ap, option_to_list}
use Rattle.reuse_plan.specs.Planned.{left_planned}
use Rattle.reuse_plan.proofs.Counting.{found_more}
use Rattle.reuse_plan.proofs.planned.left_planned.Goals as goal

pub loop-plan-preserved : goal.loop-plan-preserved
loop-plan-preserved c =
    found_more left_planned c.args.plans.now c.loop-plan.plan-index c.plan-item.result c.loop-plan.left.items
    c.push_left.new.left.items c.loop-plan-test.true c.loop-plan.invariant
    (c.in_ok-push_left.ensures ∙ ap (λ p. c.loop-plan.left.items ++ option_to_list (left_planned p)) c.plan-item.is)
