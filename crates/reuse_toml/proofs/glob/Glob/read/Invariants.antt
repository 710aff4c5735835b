use Rattle.std.proofs.Common.{◌≡◌, length}
use denote.Text.{Utf8}
use denote.Shadow.{shadow}
use Rattle.std.specs.Str.{chars}
use Rattle.reuse_toml.specs.GlobText.{read_glob}
use Rattle.reuse_toml.proofs.ReadGlobLemmas.{behind}
use Rattle.reuse_toml.proofs.glob.Glob.read.Given as goal

abbrev pub invariant-loop-first : goal.invariant-loop-first
invariant-loop-first l =
    shadow (Utf8 l.rest) × (read_glob (chars l.fn.text) ≡ behind l.pieces.items (read_glob (chars l.rest)))

abbrev pub decreases-loop-first : goal.decreases-loop-first
decreases-loop-first l = length (chars l.rest)
