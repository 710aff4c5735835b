use Rattle.std.proofs.Common.{take}
use Rattle.std.specs.Io.KnownBytes.{Appends}
use Rattle.reuse_print.specs.Lines.{path_outcome_lines}
use Rattle.reuse_print.proofs.lines.print_path_outcomes.Given as goal

-- the lines of the path outcomes so far were written
abbrev pub invariant-loop-path_outcome : goal.invariant-loop-path_outcome
invariant-loop-path_outcome g l = Appends (g.W.Write.contents l.initial.out) (g.W.Write.contents l.out)
    (path_outcome_lines l.names (take l.path_outcome-index l.path_outcomes))
