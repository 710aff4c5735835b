use Rattle.std.proofs.Common.{◌≡◌, length}
use Rattle.std.specs.Ordering.{nat_cmp}
use Rattle.std.specs.Cmp.Lexicographic.{slice_cmp}
use Rattle.std.specs.Str.{str_to_ascii_lowercase}
use Rattle.reuse_style.proofs.style_table.compare_lowered.Given as goal

abbrev pub invariant-loop-lowered : goal.invariant-loop-lowered
invariant-loop-lowered l = slice_cmp nat_cmp l.lowered
    (str_to_ascii_lowercase l.name) ≡ slice_cmp nat_cmp l.initial.lowered (str_to_ascii_lowercase l.initial.name)

abbrev pub decreases-loop-lowered : goal.decreases-loop-lowered
decreases-loop-lowered l = length l.lowered
