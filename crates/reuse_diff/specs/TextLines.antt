-- The lines of a text, each with its end.
use Rattle.std.specs.Prelude.{◌≡◌, ◌≢◌, ◌⊎◌, ℕ, List, [], ◌∷◌, ◌++◌, map, flat_map, All}
use Rattle.std.specs.Borrow.{Bor}

-- a line feed
abbrev pub line_feed : ℕ
line_feed = 10

-- the byte is no line feed
abbrev pub IsInLine : ℕ → Type 0
IsInLine byte = byte ≢ line_feed

-- some bytes without a line feed, and one behind them
pub record IsEnded (line : List ℕ) : Type 0 where
  pub content : List ℕ
  pub within : All IsInLine content
  pub end : line ≡ content ++ line_feed ∷ []

-- some bytes without a line feed, at least one
pub record IsUnended (line : List ℕ) : Type 0 where
  pub within : All IsInLine line
  pub some : line ≢ []

-- each is a line, and each but the last is ended
abbrev pub AreLines : List (List ℕ) → Type 0
AreLines [] = Unit {0}
AreLines (line ∷ []) = IsEnded line ⊎ IsUnended line
AreLines (line ∷ next ∷ lines) = IsEnded line × AreLines (next ∷ lines)

-- the bytes of lines
abbrev pub joined : List (List ℕ) → List ℕ
joined lines = flat_map (λ line. line) lines

-- these are the lines of the text
pub record AreLinesOf (text : List ℕ) (lines : List (List ℕ)) : Type 0 where
  pub whole : joined lines ≡ text
  pub each : AreLines lines

-- lines as they are lent
abbrev pub texts_of : List (Bor (List ℕ)) → List (List ℕ)
texts_of lines = map (λ line. line.now) lines
