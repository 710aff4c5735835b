-- How a string of a `REUSE.toml` is written, and which table a text is (TOML 1.0).
use Rattle.std.specs.Prelude.{ℕ, ◌+◌, ◌/◌, ◌%◌, ◌||◌, ◌==◌, nat_lt, List, [], ◌∷◌, ◌++◌, flat_map, Option, None}
use Rattle.std.specs.Prelude.{if◌then◌else◌}
use Rattle.std.specs.Str.{is_utf8}
use Rattle.toml.specs.Data.{Members}
use Rattle.toml.specs.Parse.{parse_document}

-- a digit of 0 to 15, in capitals
abbrev pub hex_digit : ℕ → ℕ
hex_digit d = if nat_lt d 10 then 48 + d else 55 + d

-- a byte of a basic string
abbrev pub escaped : ℕ → List ℕ
escaped b =
    if b == 34 then 92 ∷ 34 ∷ []
    else if b == 92 then 92 ∷ 92 ∷ []
    else if b == 10 then 92 ∷ 110 ∷ []
    else if b == 9 then 92 ∷ 116 ∷ []
    else if nat_lt b 32 || b == 127 then 92 ∷ 117 ∷ 48 ∷ 48 ∷ hex_digit (b / 16) ∷ hex_digit (b % 16) ∷ []
    else b ∷ []

-- a text as a basic string
abbrev pub quoted : List ℕ → List ℕ
quoted text = 34 ∷ [] ++ flat_map escaped text ++ 34 ∷ []

-- the table that bytes are, read as TOML
abbrev pub read_toml : List ℕ → Option Members
read_toml bytes = if is_utf8 bytes then parse_document bytes else None
