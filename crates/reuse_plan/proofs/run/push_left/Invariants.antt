use Rattle.std.proofs.Common.{◌≡◌, ◌++◌, map}
use Rattle.reuse_command.specs.declared.path_outcome.PathOutcome.TheVariants.{Left}
use Rattle.reuse_plan.proofs.run.push_left.Given as goal

-- of the paths so far
abbrev pub invariant-loop-path : goal.invariant-loop-path
invariant-loop-path l = l.path_outcomes.items ≡ l.fn.path_outcomes.items ++ map Left l.yielded
