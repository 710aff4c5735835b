use Rattle.reuse_diff.proofs.CommonLines.{EndAlike}
use Rattle.reuse_diff.proofs.compare.common_below.Given as goal

abbrev pub invariant-loop-count : goal.invariant-loop-count
invariant-loop-count l = EndAlike l.old l.new l.count
