use Rattle.std.proofs.Common.{◌≡◌, ◌+◌, drop, false}
use Rattle.reuse_toml.specs.TomlPieces.{string_len}
use Rattle.reuse_toml.proofs.toml_pieces.string_len.Given as goal

abbrev pub invariant-loop-i : goal.invariant-loop-i
invariant-loop-i l =
    l.i + string_len l.quote l.need l.state (drop l.i l.text) ≡ string_len l.quote l.need (l.need, false) l.text
