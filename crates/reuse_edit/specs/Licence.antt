-- Licences by their ids, and where their texts stand.
use Rattle.std.specs.Prelude.{ℕ, ◌-◌, Bool, ◌&&◌, ◌||◌, ◌==◌, List, ◌++◌, length, take, drop, nat_lt, nat_le, codes, []}
use Rattle.std.specs.Prelude.{◌∷◌, Option, None, if◌then◌else◌}
use Rattle.std.specs.List.{list_all}
use Rattle.std.specs.Char.{is_ascii_alphanumeric}
use Rattle.std.specs.Str.{bytes_eq}
use Rattle.reuse_command.specs.declared.licence.LicenceText.{LicenceText}

-- an ASCII letter, a digit, `.` or `-`
abbrev pub is_id_byte : ℕ → Bool
is_id_byte byte = is_ascii_alphanumeric byte || byte == 46 || byte == 45

-- 1 to 200 of these
abbrev pub is_id : List ℕ → Bool
is_id text = nat_lt 0 (length text) && nat_le (length text) 200 && list_all is_id_byte text

-- where the text of a licence stands (REUSE Specification 3.3)
abbrev pub licence_path : List ℕ → List ℕ
licence_path id = codes "LICENSES/" ++ id ++ codes ".txt"

-- the id of the licence whose text stands at such a path
abbrev pub licence_id : List ℕ → List ℕ
licence_id path = take (length path - 13) (drop 9 path)

-- the text that was found for an id: the first that is given for it counts
abbrev pub text_for : List LicenceText → List ℕ → Option (List ℕ)
text_for [] id = None
text_for (given ∷ texts) id = if bytes_eq given.id id then given.text else text_for texts id
