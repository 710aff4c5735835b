use Rattle.std.proofs.Common.{◌≡◌, ◌+◌, drop}
use Rattle.reuse_text.specs.Difference.{same_front}
use Rattle.reuse_text.proofs.difference.same_front.Given as goal

abbrev pub invariant-loop-count : goal.invariant-loop-count
invariant-loop-count l = same_front l.old l.new ≡ l.count + same_front (drop l.count l.old) (drop l.count l.new)
