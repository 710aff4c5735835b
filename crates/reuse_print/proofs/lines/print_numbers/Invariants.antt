use Rattle.std.proofs.Common.{take}
use Rattle.std.specs.List.{flat_map}
use Rattle.std.specs.Io.KnownBytes.{Appends}
use Rattle.reuse_print.specs.Lines.{forgotten_line}
use Rattle.reuse_print.proofs.lines.print_numbers.Given as goal

-- the lines of the numbers so far were written
abbrev pub invariant-loop-number : goal.invariant-loop-number
invariant-loop-number g l = Appends (g.W.Write.contents l.initial.out) (g.W.Write.contents l.out)
    (flat_map forgotten_line (take l.number-index l.numbers))
