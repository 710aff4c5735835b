-- How far the front of a pattern matches the front of a path.
use Rattle.std.specs.Prelude.{ℕ, ◌≤◌, ◌<◌, ◌↔◌, List, ◌∷◌, length}
use Rattle.std.specs.Str.{chars}
use Rattle.reuse_dep5.specs.declared.pattern.PatternPiece.{PatternPiece}
use Rattle.reuse_dep5.specs.declared.pattern.PatternPiece.TheVariants.{AnyRun}
use Rattle.reuse_dep5.specs.declared.pattern.Fit.{Fit}
use Rattle.reuse_dep5.specs.declared.pattern.Fit.TheVariants.{Whole, Mismatch, Run}
use Rattle.reuse_dep5.specs.PatternMatch.{Matches}

-- Once the front is matched, the pieces left match what is left exactly where all match all,
-- and no later start of the pieces leaves more to a run.
pub record IsWalk (pieces : List PatternPiece) (path : List ℕ) (left : List PatternPiece) (rest : List ℕ) : Type 0 where
  pub same : Matches pieces path ↔ Matches left rest
  pub earliest : Matches (AnyRun ∷ pieces) path → Matches (AnyRun ∷ left) rest
  pub fewer : length left ≤ length pieces

-- what matching the front answers
abbrev pub IsFit : List PatternPiece → List ℕ → Fit → Type 0
IsFit pieces path Whole = Matches pieces path
IsFit pieces path Mismatch = ¬ Matches pieces path
IsFit pieces path (Run left rest) = IsWalk pieces path (AnyRun ∷ left.now) (chars rest.now)

-- what matching after a run answers
abbrev pub IsFitAfterRun : List PatternPiece → List ℕ → Fit → Type 0
IsFitAfterRun pieces path Whole = Matches (AnyRun ∷ pieces) path
IsFitAfterRun pieces path Mismatch = ¬ Matches (AnyRun ∷ pieces) path
IsFitAfterRun pieces path (Run left rest) =
    (Matches (AnyRun ∷ pieces) path ↔ Matches (AnyRun ∷ left.now) (chars rest.now)) × (length left.now < length pieces)
