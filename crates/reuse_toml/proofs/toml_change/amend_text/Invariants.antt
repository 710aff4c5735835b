use Rattle.std.proofs.Common.{◌≡◌, length}
use Rattle.reuse_toml.specs.TomlPieces.{pieces_of}
use Rattle.reuse_toml.specs.TomlAmending.{pieces_amended, text_amended}
use Rattle.reuse_toml.proofs.toml_change.amend_text.Given as goal

abbrev pub invariant-loop-rest : goal.invariant-loop-rest
invariant-loop-rest l = pieces_amended l.amendments l.place l.text (pieces_of l.rest) ≡ text_amended l.amendments l.file

abbrev pub decreases-loop-rest : goal.decreases-loop-rest
decreases-loop-rest l = length l.rest
