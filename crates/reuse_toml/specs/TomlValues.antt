-- What amendments make of a value of a `REUSE.toml`, and of the string that writes it (docs/RULES.md, "What amend
-- writes").
use Rattle.std.specs.Prelude.{ℕ, ◌==◌, nat_eq, Bool, true, false, codes, List, [], ◌∷◌, ◌++◌, drop, Option, None, Some}
use Rattle.std.specs.Prelude.{option_map, option_and_then, Result, Ok, Err, if◌then◌else◌}
use Rattle.std.specs.List.{starts_with}
use Rattle.std.specs.Str.{bytes_eq, is_utf8}
use Rattle.toml.specs.Data.{as_str}
use Rattle.toml.specs.Parse.{parse_value}
use Rattle.reuse_amend.specs.declared.amendments.Amendments.{Amendments}
use Rattle.reuse_amend.specs.Amending.{licence_alone, notice_amended}
use Rattle.reuse_toml.specs.declared.toml_pieces.PieceKind.{PieceKind}
use Rattle.reuse_toml.specs.declared.toml_pieces.PieceKind.TheVariants.{Comma, Text}
use Rattle.reuse_toml.specs.declared.toml_places.TomlKey.{TomlKey}
use Rattle.reuse_toml.specs.declared.toml_places.TomlKey.TheVariants.{Licence, Notice}
use Rattle.reuse_toml.specs.declared.toml_places.TomlPlace.{TomlPlace}
use Rattle.reuse_toml.specs.declared.toml_places.TomlPlace.TheVariants.{Value, Values}
use Rattle.reuse_toml.specs.declared.toml_values.AmendTomlRefusal.{AmendTomlRefusal}
use Rattle.reuse_toml.specs.declared.toml_values.AmendTomlRefusal.TheVariants.{BadExpression, CannotBeAmended}
use Rattle.reuse_toml.specs.declared.toml_values.NewPiece.{NewPiece}
use Rattle.reuse_toml.specs.declared.toml_values.NewPiece.TheVariants.{Same, Removed, Changed}
use Rattle.reuse_toml.specs.TomlPieces.{is_multi_line}
use Rattle.reuse_toml.specs.TomlText.{quoted}

-- ---- values

-- what a value of `SPDX-FileCopyrightText` stands behind in a comment
abbrev pub notice_lead : List ℕ
notice_lead = codes "SPDX-FileCopyrightText: "

-- a notice without that, of 24 bytes, if it has it
abbrev pub without_lead : List ℕ → List ℕ
without_lead text = if starts_with nat_eq text notice_lead then drop 24 text else text

-- What becomes of a value: none where that leaves the grammar of licences, and no text where it is removed. A value of
-- `SPDX-FileCopyrightText` is a notice without its lead.
abbrev pub value_amended : Amendments → TomlKey → List ℕ → Option (Option (List ℕ))
value_amended a Licence value = licence_alone a value
value_amended a Notice value = Some (option_map without_lead (notice_amended a (notice_lead ++ value)))

-- ---- strings

-- the value that a string writes
abbrev pub value_written : List ℕ → Option (List ℕ)
value_written piece = option_and_then as_str (if is_utf8 piece then parse_value piece else None)

-- the string that writes a value, between quotes or apostrophes
abbrev pub spelled : Bool → List ℕ → List ℕ
spelled literal value = if literal then codes "'" ++ value ++ codes "'" else quoted value

-- the first byte is an apostrophe; the first three are, or are quotes
abbrev pub is_literal : List ℕ → Bool
is_literal [] = false
is_literal (b ∷ bytes) = b == 39

abbrev pub goes_over_lines : List ℕ → Bool
goes_over_lines [] = false
goes_over_lines (b ∷ bytes) = is_multi_line b (b ∷ bytes)

-- a string that writes a value, where that becomes another one
abbrev pub respelled : List ℕ → List ℕ → List ℕ → Result NewPiece AmendTomlRefusal
respelled piece value new =
    if bytes_eq new value then Ok Same
    else if goes_over_lines piece then Err CannotBeAmended
    else Ok (Changed (spelled (is_literal piece) new))

abbrev pub piece_becomes : List ℕ → List ℕ → Option (Option (List ℕ)) → Result NewPiece AmendTomlRefusal
piece_becomes piece value None = Err BadExpression
piece_becomes piece value (Some None) = Ok Removed
piece_becomes piece value (Some (Some new)) = respelled piece value new

abbrev pub string_amended : Amendments → TomlKey → List ℕ → Option (List ℕ) → Result NewPiece AmendTomlRefusal
string_amended a key piece None = Err CannotBeAmended
string_amended a key piece (Some value) = piece_becomes piece value (value_amended a key value)

-- a string that stands alone can't be removed
abbrev pub unless_removed : Result NewPiece AmendTomlRefusal → Result NewPiece AmendTomlRefusal
unless_removed (Ok Removed) = Err CannotBeAmended
unless_removed r = r

-- What becomes of a piece at its place. The comma behind a removed value goes with it.
abbrev pub piece_amended : Amendments → TomlPlace → PieceKind → List ℕ → Result NewPiece AmendTomlRefusal
piece_amended a (Value key) Text piece = unless_removed (string_amended a key piece (value_written piece))
piece_amended a (Values key before) Text piece = string_amended a key piece (value_written piece)
piece_amended a (Values key true) Comma piece = Ok Removed
piece_amended a _ kind piece = Ok Same
