use Rattle.std.proofs.Common.{length}
use Rattle.reuse_diff.specs.TextLines.{texts_of}
use Rattle.reuse_diff.proofs.LineLists.{AreSoFar}
use Rattle.reuse_diff.proofs.text_lines.lines_of.Given as goal

abbrev pub invariant-loop-rest : goal.invariant-loop-rest
invariant-loop-rest l = AreSoFar l.text (texts_of l.lines.items) l.rest

abbrev pub decreases-loop-rest : goal.decreases-loop-rest
decreases-loop-rest l = length l.rest
