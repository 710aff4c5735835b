use Rattle.std.proofs.Common.{◌≡◌, ◌+◌, drop, reverse}
use Rattle.reuse_text.specs.Difference.{same_end, same_front}
use Rattle.reuse_text.proofs.difference.same_end.Given as goal

abbrev pub invariant-loop-count : goal.invariant-loop-count
invariant-loop-count l =
    same_end l.old l.new ≡ l.count + same_front (drop l.count (reverse l.old)) (drop l.count (reverse l.new))
