-- How a name is shown.
use Rattle.std.specs.Prelude.{ℕ, ◌+◌, ◌/◌, ◌%◌, ◌==◌, ◌||◌, Bool, List, [], ◌∷◌, if◌then◌else◌, nat_lt}
use Rattle.std.specs.List.{flat_map}
use Rattle.reuse_shown.specs.declared.shown_name.NameDisplay.{NameDisplay}
use Rattle.reuse_shown.specs.declared.shown_name.NameDisplay.TheVariants.{AsTheyAre, Escaped}

-- a control byte is below 20 hex, or 7F
abbrev pub is_control : ℕ → Bool
is_control byte = nat_lt byte 32 || byte == 127

-- a digit of base sixteen, from ten on a capital letter
abbrev pub hex_digit : ℕ → ℕ
hex_digit value = if nat_lt value 10 then 48 + value else 55 + value

-- a byte on a terminal: a control byte as `\x` and two such digits
abbrev pub shown_byte : ℕ → List ℕ
shown_byte byte = if is_control byte then 92 ∷ 120 ∷ hex_digit (byte / 16) ∷ hex_digit (byte % 16) ∷ [] else byte ∷ []

-- a name on a terminal
abbrev pub shown_on_terminal : List ℕ → List ℕ
shown_on_terminal name = flat_map shown_byte name

-- a name, as it is or as on a terminal
abbrev pub shown : NameDisplay → List ℕ → List ℕ
shown AsTheyAre name = name
shown Escaped name = shown_on_terminal name
