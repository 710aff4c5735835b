use Rattle.std.proofs.Common.{◌≡◌, length}
use Rattle.reuse_text.specs.Lines.{lines_left}
use Rattle.reuse_tags.specs.Left.{left_by, has_in_lines, leaves_values}
use Rattle.reuse_tags.proofs.left.leaves_in_lines.Given as goal

abbrev pub invariant-lines : goal.invariant-lines
invariant-lines l =
    has_in_lines (left_by l.amendments) l.ignored (lines_left l.lines) ≡ leaves_values l.amendments l.text

abbrev pub decreases-lines : goal.decreases-lines
decreases-lines l = length (lines_left l.lines)
