use Rattle.std.proofs.Common.{◌≡◌, length}
use Rattle.reuse_text.specs.Lines.{lines_left}
use Rattle.reuse_header.specs.Neighbour.{closed_lines}
use Rattle.reuse_header.proofs.place.closed_lines.Given as goal

abbrev pub invariant-loop-line : goal.invariant-loop-line
invariant-loop-line l = closed_lines (lines_left l.rest) ≡ closed_lines (lines_left l.lines)

abbrev pub decreases-loop-line : goal.decreases-loop-line
decreases-loop-line l = length (lines_left l.rest)
