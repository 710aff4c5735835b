-- How far the front of a glob matches the front of a path.
use Rattle.std.specs.Prelude.{ℕ, ◌+◌, ◌↔◌, List, ◌∷◌, length}
use Rattle.std.specs.Str.{chars}
use Rattle.reuse_toml.specs.declared.glob.GlobPiece.{GlobPiece}
use Rattle.reuse_toml.specs.declared.glob.GlobPiece.TheVariants.{RunInPart, AnyRun}
use Rattle.reuse_toml.specs.declared.glob.GlobFit.{GlobFit}
use Rattle.reuse_toml.specs.declared.glob.GlobFit.TheVariants.{Whole, Mismatch, PartRun, Run}
use Rattle.reuse_toml.specs.GlobMatch.{GlobMatches}

-- Once the front is matched, the pieces left match what is left exactly where all match all,
-- and no later start of the pieces leaves more to a run.
pub record IsGlobWalk (pieces : List GlobPiece) (path : List ℕ) (left : List GlobPiece) (rest : List ℕ) : Type 0 where
  pub same : GlobMatches pieces path ↔ GlobMatches left rest
  pub earliest : GlobMatches (AnyRun ∷ pieces) path → GlobMatches (AnyRun ∷ left) rest
  pub earliest_in_part : GlobMatches (RunInPart ∷ pieces) path → GlobMatches (RunInPart ∷ left) rest

-- what matching the front answers
abbrev pub IsGlobFit : List GlobPiece → List ℕ → GlobFit → Type 0
IsGlobFit pieces path Whole = GlobMatches pieces path
IsGlobFit pieces path Mismatch = ¬ GlobMatches pieces path
IsGlobFit pieces path (PartRun left rest) = IsGlobWalk pieces path (RunInPart ∷ left.now) (chars rest.now)
IsGlobFit pieces path (Run left rest) = IsGlobWalk pieces path (AnyRun ∷ left.now) (chars rest.now)

-- what matching after a `**` answers
abbrev pub IsGlobFitAfterRun : List GlobPiece → List ℕ → GlobFit → Type 0
IsGlobFitAfterRun pieces path Whole = GlobMatches (AnyRun ∷ pieces) path
IsGlobFitAfterRun pieces path Mismatch = ¬ GlobMatches (AnyRun ∷ pieces) path
IsGlobFitAfterRun pieces path (PartRun left rest) = ⊥
IsGlobFitAfterRun pieces path (Run left rest) =
    GlobMatches (AnyRun ∷ pieces) path ↔ GlobMatches (AnyRun ∷ left.now) (chars rest.now)

-- no `*` is left before the next `**`
abbrev pub IsPastPart : GlobFit → Type 0
IsPastPart Whole = Unit {0}
IsPastPart Mismatch = Unit {0}
IsPastPart (PartRun left rest) = ⊥
IsPastPart (Run left rest) = Unit {0}

-- how many pieces are left, with the run before them
abbrev pub glob_fit_len : GlobFit → ℕ
glob_fit_len Whole = 0
glob_fit_len Mismatch = 0
glob_fit_len (PartRun left rest) = length left.now + 1
glob_fit_len (Run left rest) = length left.now + 1
