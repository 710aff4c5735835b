use Rattle.std.proofs.Common.{take}
use Rattle.std.specs.Io.KnownBytes.{Appends}
use Rattle.reuse_shown.specs.ShownNames.{shown_on_terminal}
use Rattle.reuse_shown.proofs.shown_name.print_escaped.Given as goal

-- the front of the name is printed
abbrev pub invariant-loop-byte : goal.invariant-loop-byte
invariant-loop-byte g l =
    Appends (g.W.Write.contents l.initial.out) (g.W.Write.contents l.out) (shown_on_terminal (take l.byte-index l.name))
