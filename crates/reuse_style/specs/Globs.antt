-- Globs over bytes: how one is written, and which texts it fits (docs/RULES.md, "Rules").
use Rattle.std.specs.Prelude.{ℕ, Bool, false, ◌&&◌, ◌||◌, ◌==◌, List, [], ◌∷◌, Option, Some, None}
use Rattle.std.specs.Prelude.{if◌then◌else◌}
use Rattle.std.specs.Char.{eq_ignore_ascii_case}
use Rattle.std.specs.List.{list_any}
use Rattle.std.specs.Option.{option_map}
use Rattle.reuse_text.specs.Text.{is_empty}
use Rattle.reuse_style.specs.declared.glob.GlobPiece.{GlobPiece}
use Rattle.reuse_style.specs.declared.glob.GlobPiece.TheVariants.{Byte, AnyRun}
use Rattle.reuse_style.specs.declared.glob.Letters.{Letters}
use Rattle.reuse_style.specs.declared.glob.Letters.TheVariants.{Exact, AnyCase}

-- what a byte stands for that no backslash stands in front of
abbrev pub single_piece : ℕ → GlobPiece
single_piece b = if b == 42 then AnyRun else Byte b

-- a piece in front of the pieces of what follows
abbrev pub onto_glob : GlobPiece → Option (List GlobPiece) → Option (List GlobPiece)
onto_glob piece pieces = option_map (λ others. piece ∷ others) pieces

-- The pieces that a text spells: `*` is any run of bytes, and a backslash makes a `*` or a backslash literal. None
-- where a backslash is before another byte or at the end.
unfoldable pub read_glob : List ℕ → Option (List GlobPiece)
read_glob [] = Some []
read_glob (b ∷ []) = if b == 92 then None else Some (single_piece b ∷ [])
read_glob (b ∷ c ∷ bytes) =
    if b == 92 then (if c == 42 || c == 92 then onto_glob (Byte c) (read_glob bytes) else None)
    else onto_glob (single_piece b) (read_glob (c ∷ bytes))

-- which bytes are the same
abbrev pub is_same : Letters → ℕ → ℕ → Bool
is_same Exact a b = a == b
is_same AnyCase a b = eq_ignore_ascii_case a b

-- a text, and each of its tails
abbrev pub tails : List ℕ → List (List ℕ)
tails [] = [] ∷ []
tails (b ∷ text) = (b ∷ text) ∷ tails text

-- whether the pieces, one after the other, fit the whole text
unfoldable pub glob_fits : Letters → List GlobPiece → List ℕ → Bool
glob_fits letters [] text = is_empty text
glob_fits letters (Byte b ∷ pieces) [] = false
glob_fits letters (Byte b ∷ pieces) (c ∷ text) = is_same letters b c && glob_fits letters pieces text
glob_fits letters (AnyRun ∷ pieces) text = list_any (glob_fits letters pieces) (tails text)
