use Rattle.std.proofs.Common.{◌≡◌, length}
use Rattle.reuse_style.specs.Marks.{are_beginnings}
use Rattle.reuse_style.proofs.prefix_marks.are_beginnings.Given as goal

abbrev pub invariant-loop-beginnings : goal.invariant-loop-beginnings
invariant-loop-beginnings l = are_beginnings l.beginnings
    ≡ are_beginnings l.initial.beginnings

abbrev pub decreases-loop-beginnings : goal.decreases-loop-beginnings
decreases-loop-beginnings l = length l.beginnings
