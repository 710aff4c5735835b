-- A TOML text cut into pieces: comments, strings, words and single bytes (TOML 1.0).
use Rattle.std.specs.Prelude.{ℕ, zero, suc, ◌+◌, ◌-◌, ◌==◌, nat_le, nat_eq, Bool, false, not, ◌&&◌, ◌||◌, List, [], ◌∷◌}
use Rattle.std.specs.Prelude.{take, drop, slice_index, Option, None, Some, if◌then◌else◌}
use Rattle.std.specs.Option.{option_map_or}
use Rattle.std.specs.List.{prefix_len, starts_with}
use Rattle.std.specs.Char.{is_ascii_alphanumeric}
use Rattle.reuse_toml.specs.declared.toml_pieces.PieceKind.{PieceKind}
use Rattle.reuse_toml.specs.declared.toml_pieces.PieceKind.TheVariants.{Gap, LineEnd, Open, Close, OpenBrace}
use Rattle.reuse_toml.specs.declared.toml_pieces.PieceKind.TheVariants.{CloseBrace, Comma, Equals, Text, Other}

-- a byte of a word: a key without quotes, a number, a truth value
abbrev pub is_word_byte : ℕ → Bool
is_word_byte b = is_ascii_alphanumeric b || b == 45 || b == 95

-- a quote or an apostrophe
abbrev pub is_quote : ℕ → Bool
is_quote b = b == 34 || b == 39

-- What a piece is by its first byte. Blanks, comments and a byte order mark are gaps.
abbrev pub kind_of_byte : ℕ → PieceKind
kind_of_byte b =
    if b == 32 || b == 9 || b == 13 || b == 35 || nat_le 128 b then Gap
    else if b == 10 then LineEnd
    else if b == 91 then Open
    else if b == 93 then Close
    else if b == 123 then OpenBrace
    else if b == 125 then CloseBrace
    else if b == 44 then Comma
    else if b == 61 then Equals
    else if is_quote b then Text
    else Other

abbrev pub kind_of : List ℕ → PieceKind
kind_of [] = Gap
kind_of (b ∷ bytes) = kind_of_byte b

-- One byte more of a string that ends behind `need` quotes in a row: how many quotes are left then, and whether the
-- next byte is escaped; none where the byte stands behind the string.
abbrev pub string_step : ℕ → ℕ → ℕ × Bool → ℕ → Option (ℕ × Bool)
string_step quote need state b =
    if state.1 then Some (need, false)
    else if b == quote then Some (state.0 - 1, false)
    else if state.0 == 0 then None
    else Some (need, b == 92 && quote == 34)

-- how many bytes of a text belong to a string that has begun
unfoldable pub string_len : ℕ → ℕ → ℕ × Bool → List ℕ → ℕ
string_len quote need state [] = 0
string_len quote need state (b ∷ bytes) =
    option_map_or (λ next. suc (string_len quote need next bytes)) (string_step quote need state b) 0

-- a string on several lines begins with three quotes
abbrev pub is_multi_line : ℕ → List ℕ → Bool
is_multi_line quote text = starts_with nat_eq text (quote ∷ quote ∷ quote ∷ [])

abbrev pub quoted_len : ℕ → List ℕ → ℕ
quoted_len quote text =
    if is_multi_line quote text then 3 + string_len quote 3 (3, false) (drop 3 text)
    else 1 + string_len quote 1 (1, false) (drop 1 text)

abbrev pub is_no_line_end : ℕ → Bool
is_no_line_end b = not (b == 10)

-- how many bytes the first piece of a text has, by the first byte
abbrev pub first_len : ℕ → List ℕ → ℕ
first_len b text =
    if b == 35 then 1 + prefix_len is_no_line_end (drop 1 text)
    else if is_quote b then quoted_len b text
    else if is_word_byte b then 1 + prefix_len is_word_byte (drop 1 text)
    else 1

abbrev pub piece_len : List ℕ → ℕ
piece_len text = first_len (slice_index text 0) text

-- the pieces of a text; `skip` bytes belong to the piece before
unfoldable pub pieces_from : ℕ → List ℕ → List (List ℕ)
pieces_from skip [] = []
pieces_from (suc skip) (b ∷ bytes) = pieces_from skip bytes
pieces_from zero (b ∷ bytes) = take (piece_len (b ∷ bytes)) (b ∷ bytes) ∷ pieces_from (piece_len (b ∷ bytes) - 1) bytes

abbrev pub pieces_of : List ℕ → List (List ℕ)
pieces_of text = pieces_from 0 text
