use Rattle.std.proofs.Common.{take}
use Rattle.std.specs.Io.KnownBytes.{Appends}
use Rattle.reuse_print.specs.Lines.{lines_of}
use Rattle.reuse_print.proofs.lines.print_paths.Given as goal

-- the lines of the paths so far were written
abbrev pub invariant-loop-path : goal.invariant-loop-path
invariant-loop-path g l = Appends (g.W.Write.contents l.initial.out) (g.W.Write.contents l.out)
    (lines_of l.names l.word (take l.path-index l.paths))
