use Rattle.std.proofs.Common.{◌≡◌, length}
use Rattle.std.specs.Prelude.{fold}
use Rattle.reuse_style.specs.Marks.{with_sign}
use Rattle.reuse_style.proofs.marks.add_signs.Given as goal

abbrev pub invariant-loop-mark : goal.invariant-loop-mark
invariant-loop-mark l = fold with_sign l.signs.items l.mark ≡ fold with_sign l.initial.signs.items l.initial.mark

abbrev pub decreases-loop-mark : goal.decreases-loop-mark
decreases-loop-mark l = length l.mark
