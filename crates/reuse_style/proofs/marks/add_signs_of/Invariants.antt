use Rattle.std.proofs.Common.{◌≡◌, [], length, map}
use Rattle.std.specs.Prelude.{flat_map, fold, unwrap_or}
use Rattle.std.specs.Option.{option_copied}
use Rattle.reuse_style.specs.Marks.{with_sign}
use Rattle.reuse_style.proofs.marks.add_signs_of.Given as goal

abbrev pub invariant-loop-marks : goal.invariant-loop-marks
invariant-loop-marks l =
    fold with_sign l.signs.items (flat_map (λ mark. unwrap_or mark []) (map (λ mark. option_copied mark) l.marks))
    ≡ fold with_sign l.initial.signs.items
    (flat_map (λ mark. unwrap_or mark []) (map (λ mark. option_copied mark) l.initial.marks))

abbrev pub decreases-loop-marks : goal.decreases-loop-marks
decreases-loop-marks l = length l.marks
