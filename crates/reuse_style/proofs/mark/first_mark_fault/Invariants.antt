use Rattle.std.proofs.Common.{◌≡◌, length, map}
use Rattle.std.specs.Option.{option_copied}
use Rattle.reuse_style.specs.Marks.{first_mark_fault}
use Rattle.reuse_style.proofs.mark.first_mark_fault.Given as goal

abbrev pub invariant-loop-marks : goal.invariant-loop-marks
invariant-loop-marks l = first_mark_fault (map (λ mark. option_copied mark) l.marks) ≡ first_mark_fault
    (map (λ mark. option_copied mark) l.initial.marks)

abbrev pub decreases-loop-marks : goal.decreases-loop-marks
decreases-loop-marks l = length l.marks
