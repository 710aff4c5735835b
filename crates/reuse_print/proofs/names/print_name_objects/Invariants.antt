use Rattle.std.proofs.Common.{take}
use Rattle.std.specs.Io.KnownBytes.{Appends}
use Rattle.reuse_print.specs.Names.{name_objects}
use Rattle.reuse_print.proofs.names.print_name_objects.Given as goal

-- the objects of the names so far were written
abbrev pub invariant-loop-row : goal.invariant-loop-row
invariant-loop-row g l = Appends (g.W.Write.contents l.initial.out) (g.W.Write.contents l.out)
    (name_objects (take l.row-index l.rows))
