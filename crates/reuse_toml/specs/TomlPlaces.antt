-- Where a piece of a `REUSE.toml` stands: which strings are values of the two keys in `[[annotations]]` (REUSE
-- Specification 3.3, "REUSE.toml").
use Rattle.std.specs.Prelude.{ℕ, suc, ◌-◌, ◌==◌, nat_lt, Bool, true, false, ◌||◌, codes, List, ◌∷◌, [], ◌++◌, Option}
use Rattle.std.specs.Prelude.{None, Some, if◌then◌else◌}
use Rattle.std.specs.Option.{option_map_or}
use Rattle.std.specs.Str.{bytes_eq}
use Rattle.reuse_toml.specs.declared.toml_pieces.PieceKind.{PieceKind}
use Rattle.reuse_toml.specs.declared.toml_pieces.PieceKind.TheVariants.{Gap, LineEnd, Open, Close, OpenBrace}
use Rattle.reuse_toml.specs.declared.toml_pieces.PieceKind.TheVariants.{CloseBrace, Comma, Equals, Text}
use Rattle.reuse_toml.specs.declared.toml_places.TomlKey.{TomlKey}
use Rattle.reuse_toml.specs.declared.toml_places.TomlKey.TheVariants.{Licence, Notice}
use Rattle.reuse_toml.specs.declared.toml_places.TomlPlace.{TomlPlace}
use Rattle.reuse_toml.specs.declared.toml_places.TomlPlace.TheVariants.{Line, Header, ArrayHeader, Named, Key, Value}
use Rattle.reuse_toml.specs.declared.toml_places.TomlPlace.TheVariants.{Values, Rest}

-- the two keys
abbrev pub key_named : List ℕ → Option TomlKey
key_named name =
    if bytes_eq name (codes "SPDX-License-Identifier") then Some Licence
    else if bytes_eq name (codes "SPDX-FileCopyrightText") then Some Notice
    else None

-- a name as a piece: a word, or between quotes
abbrev pub is_name : List ℕ → List ℕ → Bool
is_name name piece =
    bytes_eq piece name || bytes_eq piece (34 ∷ name ++ 34 ∷ []) || bytes_eq piece (39 ∷ name ++ 39 ∷ [])

abbrev pub key_of_piece : List ℕ → Option TomlKey
key_of_piece piece =
    if is_name (codes "SPDX-License-Identifier") piece then Some Licence
    else if is_name (codes "SPDX-FileCopyrightText") piece then Some Notice
    else None

-- behind the first piece of a line: a key whose value is amended, or another
abbrev pub behind_word : Bool → List ℕ → TomlPlace
behind_word false piece = Rest false 0
behind_word true piece = option_map_or Key (key_of_piece piece) (Rest true 0)

-- TOML nests far less
abbrev pub deeper : ℕ → ℕ
deeper depth = if nat_lt depth 1000 then suc depth else depth

abbrev pub at_line : Bool → PieceKind → List ℕ → TomlPlace
at_line here Gap piece = Line here
at_line here LineEnd piece = Line here
at_line here Open piece = Header
at_line here _ piece = behind_word here piece

abbrev pub in_header : PieceKind → TomlPlace
in_header Gap = Header
in_header Open = ArrayHeader
in_header _ = Rest false 0

abbrev pub in_array_header : PieceKind → List ℕ → TomlPlace
in_array_header Gap piece = ArrayHeader
in_array_header _ piece = if is_name (codes "annotations") piece then Named else Rest false 0

abbrev pub behind_name : PieceKind → TomlPlace
behind_name Gap = Named
behind_name Close = Rest true 0
behind_name _ = Rest false 0

abbrev pub behind_key : TomlKey → PieceKind → TomlPlace
behind_key key Gap = Key key
behind_key key Equals = Value key
behind_key key _ = Rest true 0

abbrev pub at_value : TomlKey → PieceKind → TomlPlace
at_value key Gap = Value key
at_value key Open = Values key false
at_value key OpenBrace = Rest true 1
at_value key _ = Rest true 0

-- in a list of values, the last of which was removed or not
abbrev pub in_values : TomlKey → Bool → Bool → PieceKind → TomlPlace
in_values key before now Gap = Values key before
in_values key before now LineEnd = Values key before
in_values key before now Text = Values key now
in_values key before now Comma = Values key false
in_values key before now Close = Rest true 0
in_values key before now Open = Rest true 2
in_values key before now OpenBrace = Rest true 2
in_values key before now _ = Rest true 1

-- in what isn't amended, with so many brackets open
abbrev pub in_rest : Bool → ℕ → PieceKind → TomlPlace
in_rest here depth Open = Rest here (deeper depth)
in_rest here depth OpenBrace = Rest here (deeper depth)
in_rest here depth Close = Rest here (depth - 1)
in_rest here depth CloseBrace = Rest here (depth - 1)
in_rest here depth LineEnd = if depth == 0 then Line here else Rest here depth
in_rest here depth _ = Rest here depth

-- the place behind a piece, which was removed or not
abbrev pub place_behind : TomlPlace → PieceKind → List ℕ → Bool → TomlPlace
place_behind (Line here) kind piece removed = at_line here kind piece
place_behind Header kind piece removed = in_header kind
place_behind ArrayHeader kind piece removed = in_array_header kind piece
place_behind Named kind piece removed = behind_name kind
place_behind (Key key) kind piece removed = behind_key key kind
place_behind (Value key) kind piece removed = at_value key kind
place_behind (Values key before) kind piece removed = in_values key before removed kind
place_behind (Rest here depth) kind piece removed = in_rest here depth kind
