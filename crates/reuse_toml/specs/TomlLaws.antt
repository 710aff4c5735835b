-- What an amended `REUSE.toml` is, in words that do not speak of how its text is searched (docs/RULES.md, "What amend
-- writes").
use Rattle.std.specs.Prelude.{◌≡◌, ◌⊎◌, ℕ, true, false, List, [], ◌∷◌, flat_map, Some}
use Rattle.toml.specs.Data.{Members}
use Rattle.reuse_amend.specs.declared.amendments.Amendments.{Amendments}
use Rattle.reuse_toml.specs.declared.toml_pieces.PieceKind.TheVariants.{Comma, Text}
use Rattle.reuse_toml.specs.declared.toml_judge.TomlLevel.TheVariants.{Document}
use Rattle.reuse_toml.specs.TomlText.{read_toml}
use Rattle.reuse_toml.specs.TomlPieces.{kind_of, pieces_of}
use Rattle.reuse_toml.specs.TomlAmending.{members_amended, is_same}

-- a text that is read as the table of another one, with the values of the two keys amended
pub record IsAmendedText (a : Amendments) (file text : List ℕ) : Type 0 where
  pub old : Members
  pub new : Members
  pub read : read_toml file ≡ Some old
  pub read_new : read_toml text ≡ Some new
  pub amended : members_amended a Document old new ≡ true

-- and it is another table
pub record IsChangedText (a : Amendments) (file text : List ℕ) : Type 0 where
  pub old : Members
  pub new : Members
  pub read : read_toml file ≡ Some old
  pub read_new : read_toml text ≡ Some new
  pub amended : members_amended a Document old new ≡ true
  pub differs : is_same a old new ≡ false

-- a piece stays, unless it is a string; a comma may go
abbrev pub IsKept : List ℕ → List ℕ → Type 0
IsKept piece new = (new ≡ piece) ⊎ ((kind_of piece ≡ Text) ⊎ ((kind_of piece ≡ Comma) × (new ≡ [])))

abbrev pub EachIsKept : List (List ℕ) → List (List ℕ) → Type 0
EachIsKept [] [] = Unit {0}
EachIsKept (piece ∷ pieces) (new ∷ news) = IsKept piece new × EachIsKept pieces news
EachIsKept _ _ = ⊥

-- a text that differs from another one in strings and in commas alone: its comments, its keys and all other bytes stay
pub record DiffersInStrings (file text : List ℕ) : Type 0 where
  pub news : List (List ℕ)
  pub kept : EachIsKept (pieces_of file) news
  pub written : flat_map (λ new. new) news ≡ text
