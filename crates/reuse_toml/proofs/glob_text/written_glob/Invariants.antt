use Rattle.std.proofs.Common.{◌≡◌, take}
use Rattle.reuse_toml.specs.GlobText.{glob_text}
use Rattle.reuse_toml.proofs.glob_text.written_glob.Given as goal

abbrev pub invariant-loop-piece : goal.invariant-loop-piece
invariant-loop-piece l = l.text.items ≡ glob_text (take l.piece-index l.pieces)
