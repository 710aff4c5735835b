use Rattle.std.proofs.Common.{length, ◌↔◌, ◌∷◌}
use denote.Text.{Utf8}
use denote.Shadow.{shadow}
use Rattle.std.specs.Str.{chars}
use Rattle.reuse_toml.specs.declared.glob.GlobPiece.TheVariants.{AnyRun}
use Rattle.reuse_toml.specs.GlobMatch.{GlobMatches}
use Rattle.reuse_toml.proofs.glob.glob_after_run.Given as goal

abbrev pub invariant-loop-fit : goal.invariant-loop-fit
invariant-loop-fit l = shadow (Utf8 l.rest)
    × (GlobMatches (AnyRun ∷ l.fn.pieces) (chars l.fn.text) ↔ GlobMatches (AnyRun ∷ l.fn.pieces) (chars l.rest))

abbrev pub decreases-loop-fit : goal.decreases-loop-fit
decreases-loop-fit l = length (chars l.rest)
