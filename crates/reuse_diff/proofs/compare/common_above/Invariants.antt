use Rattle.reuse_diff.proofs.CommonLines.{BeginAlike}
use Rattle.reuse_diff.proofs.compare.common_above.Given as goal

abbrev pub invariant-loop-count : goal.invariant-loop-count
invariant-loop-count l = BeginAlike l.old l.new l.count
