use Rattle.std.proofs.Common.{◌≡◌, length}
use Rattle.reuse_style.specs.Marks.{is_middle}
use Rattle.reuse_style.proofs.marks.is_middle.Given as goal

abbrev pub invariant-loop-rest : goal.invariant-loop-rest
invariant-loop-rest l = is_middle l.rest ≡ is_middle l.initial.rest

abbrev pub decreases-loop-rest : goal.decreases-loop-rest
decreases-loop-rest l = length l.rest
