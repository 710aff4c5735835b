use Rattle.std.proofs.Common.{take}
use Rattle.reuse_print.specs.Objects.{AreRowObjects}
use Rattle.reuse_shown.specs.JoinedTexts.{AppendsSome}
use Rattle.reuse_print.proofs.objects.print_row_objects.Given as goal

-- the objects of the rows so far were written
abbrev pub invariant-loop-row : goal.invariant-loop-row
invariant-loop-row g l =
    AppendsSome (g.W.Write.contents l.initial.out) (g.W.Write.contents l.out) (AreRowObjects (take l.row-index l.rows))
