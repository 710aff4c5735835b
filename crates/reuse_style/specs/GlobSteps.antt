-- How far the front of a glob fits the front of a text, for private clauses.
use Rattle.std.specs.Prelude.{◌≡◌, ℕ, ◌+◌, Bool, true, false, List, ◌∷◌, length}
use Rattle.reuse_style.specs.declared.glob.GlobPiece.{GlobPiece}
use Rattle.reuse_style.specs.declared.glob.GlobPiece.TheVariants.{AnyRun}
use Rattle.reuse_style.specs.declared.glob.Letters.{Letters}
use Rattle.reuse_style.specs.declared.glob.Front.{Front}
use Rattle.reuse_style.specs.declared.glob.Front.TheVariants.{Whole, Mismatch, Run}
use Rattle.reuse_style.specs.Globs.{glob_fits}

-- it is known whether a glob fits, or that is left to the pieces behind a run
abbrev pub Decides : Letters → Bool → Front → Type 0
Decides letters fits Whole = fits ≡ true
Decides letters fits Mismatch = fits ≡ false
Decides letters fits (Run left rest) = fits ≡ glob_fits letters (AnyRun ∷ left.now) rest.now

-- no later start of the pieces leaves more to the run
abbrev pub IsEarliest : Letters → List GlobPiece → List ℕ → Front → Type 0
IsEarliest letters pieces text Whole = Unit {0}
IsEarliest letters pieces text Mismatch = Unit {0}
IsEarliest letters pieces text (Run left rest) =
    glob_fits letters (AnyRun ∷ pieces) text ≡ true → glob_fits letters (AnyRun ∷ left.now) rest.now ≡ true

-- how many pieces are left, with the run before them
abbrev pub left_len : Front → ℕ
left_len Whole = 0
left_len Mismatch = 0
left_len (Run left rest) = length left.now + 1
