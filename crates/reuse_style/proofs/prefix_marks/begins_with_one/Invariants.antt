use Rattle.std.proofs.Common.{◌≡◌, length}
use Rattle.reuse_style.specs.Marks.{begins_with_one}
use Rattle.reuse_style.proofs.prefix_marks.begins_with_one.Given as goal

abbrev pub invariant-loop-beginnings : goal.invariant-loop-beginnings
invariant-loop-beginnings l = begins_with_one l.beginnings l.text
    ≡ begins_with_one l.initial.beginnings l.initial.text

abbrev pub decreases-loop-beginnings : goal.decreases-loop-beginnings
decreases-loop-beginnings l = length l.beginnings
