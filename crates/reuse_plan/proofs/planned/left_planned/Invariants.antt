use Rattle.std.proofs.Common.{◌≡◌, take, filter_map}
use Rattle.reuse_plan.specs.Planned.{left_planned}
use Rattle.reuse_plan.proofs.planned.left_planned.Given as goal

-- of the plans so far
abbrev pub invariant-loop-plan : goal.invariant-loop-plan
invariant-loop-plan l = l.left.items ≡ filter_map left_planned (take l.plan-index l.plans)
