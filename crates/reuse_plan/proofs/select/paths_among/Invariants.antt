use Rattle.std.proofs.Common.{◌≡◌, take}
use Rattle.reuse_command.specs.Command.{paths_among}
use Rattle.reuse_plan.proofs.select.paths_among.Given as goal

abbrev pub invariant-loop-place : goal.invariant-loop-place
invariant-loop-place l = l.paths.items ≡ paths_among (take l.place-index l.places)
