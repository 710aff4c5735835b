use Rattle.std.proofs.Common.{length, ◌≤◌}
use denote.Text.{Utf8}
use denote.Shadow.{shadow}
use Rattle.std.specs.Str.{chars}
use Rattle.reuse_toml.specs.Steps.GlobMatching.{IsGlobWalk}
use Rattle.reuse_toml.proofs.glob.glob_front.Given as goal

abbrev pub invariant-loop-piece : goal.invariant-loop-piece
invariant-loop-piece l = shadow (Utf8 l.rest) × (length l.left ≤ length l.fn.pieces)
    × IsGlobWalk l.fn.pieces (chars l.fn.text) l.left (chars l.rest)

abbrev pub decreases-loop-piece : goal.decreases-loop-piece
decreases-loop-piece l = length l.left
