use Rattle.std.proofs.Common.{take}
use Rattle.reuse_print.specs.RowLines.{AreRowLines}
use Rattle.reuse_shown.specs.JoinedTexts.{AppendsSome}
use Rattle.reuse_print.proofs.rows.print_rows.Given as goal

-- the lines of the rows so far were written
abbrev pub invariant-loop-row : goal.invariant-loop-row
invariant-loop-row g l =
    AppendsSome (g.W.Write.contents l.initial.out) (g.W.Write.contents l.out) (AreRowLines (take l.row-index l.rows))
