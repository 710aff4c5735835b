use Rattle.std.proofs.Common.{take}
use Rattle.std.specs.Io.KnownBytes.{Appends}
use Rattle.reuse_print.specs.Lines.{change_lines}
use Rattle.reuse_print.proofs.lines.print_changes.Given as goal

-- the lines of the changes so far were written
abbrev pub invariant-loop-change : goal.invariant-loop-change
invariant-loop-change g l = Appends (g.W.Write.contents l.initial.out) (g.W.Write.contents l.out)
    (change_lines l.names (take l.change-index l.changes))
