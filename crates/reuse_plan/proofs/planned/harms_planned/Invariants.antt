use Rattle.std.proofs.Common.{◌≡◌, take, filter_map}
use Rattle.reuse_plan.specs.Counted.{harmed_planned}
use Rattle.reuse_plan.proofs.planned.harms_planned.Given as goal

-- of the plans so far
abbrev pub invariant-loop-plan : goal.invariant-loop-plan
invariant-loop-plan l = l.harms.items ≡ filter_map harmed_planned (take l.plan-index l.plans)
