use Rattle.std.proofs.Common.{take}
use Rattle.std.specs.List.{flat_map}
use Rattle.std.specs.Io.KnownBytes.{Appends}
use Rattle.reuse_print.specs.Objects.{json_byte}
use Rattle.reuse_print.proofs.objects.print_json.Given as goal

-- the front of the text is printed
abbrev pub invariant-loop-byte : goal.invariant-loop-byte
invariant-loop-byte g l = Appends (g.W.Write.contents l.initial.out) (g.W.Write.contents l.out)
    (flat_map json_byte (take l.byte-index l.text))
