use Rattle.std.proofs.Common.{◌≡◌, ◌++◌, take, filter}
use Rattle.reuse_plan.specs.FileTask.{chooses}
use Rattle.reuse_plan.proofs.select.push_chosen.Given as goal

abbrev pub invariant-loop-path : goal.invariant-loop-path
invariant-loop-path l = l.found.items ≡ l.initial.found.items ++ filter (chooses l.asked) (take l.path-index l.paths)
