use Rattle.std.proofs.Common.{length}
use Rattle.reuse_text.specs.Lines.{lines_left}
use Rattle.reuse_header.proofs.PassedLemmas.{PassesFirst}
use Rattle.reuse_header.proofs.prefix.pass_first_lines.Given as goal

abbrev pub invariant-loop-line : goal.invariant-loop-line
invariant-loop-line l = PassesFirst l.beginnings (lines_left l.lines)
    (lines_left l.passed.rest) l.passed.last

abbrev pub decreases-loop-line : goal.decreases-loop-line
decreases-loop-line l = length (lines_left l.passed.rest)
