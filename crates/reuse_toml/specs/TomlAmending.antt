-- A `REUSE.toml` amended (docs/RULES.md, "What amend writes"): which text it becomes, and whether that is read as the
-- table with the same values amended.
use Rattle.std.specs.Prelude.{ℕ, ◌-◌, nat_lt, nat_eq, Bool, true, false, not, ◌&&◌, codes, List, [], ◌∷◌, ◌++◌, length}
use Rattle.std.specs.Prelude.{take, drop, reverse, Option, None, Some, Result, Ok, Err, if◌then◌else◌}
use Rattle.std.specs.Option.{option_map_or}
use Rattle.std.specs.Ordering.{int_eq}
use Rattle.std.specs.List.{common_prefix_len}
use Rattle.std.specs.Str.{bytes_eq}
use Rattle.toml.specs.Data.{Data, string, integer, boolean, array, table, Items, no_items, item, Members, no_members}
use Rattle.toml.specs.Data.{member}
use Rattle.reuse_text.specs.declared.TheConstants.{LONGEST_FILE}
use Rattle.reuse_amend.specs.declared.amendments.Amendments.{Amendments}
use Rattle.reuse_toml.specs.declared.toml_places.TomlPlace.{TomlPlace}
use Rattle.reuse_toml.specs.declared.toml_places.TomlPlace.TheVariants.{Line}
use Rattle.reuse_toml.specs.declared.toml_values.AmendTomlRefusal.{AmendTomlRefusal}
use Rattle.reuse_toml.specs.declared.toml_values.AmendTomlRefusal.TheVariants.{CannotBeAmended, TooLong}
use Rattle.reuse_toml.specs.declared.toml_values.NewPiece.{NewPiece}
use Rattle.reuse_toml.specs.declared.toml_values.NewPiece.TheVariants.{Same, Removed, Changed}
use Rattle.reuse_toml.specs.declared.toml_judge.TomlLevel.{TomlLevel}
use Rattle.reuse_toml.specs.declared.toml_judge.TomlLevel.TheVariants.{Document, Annotations, Annotation, ValuesOf}
use Rattle.reuse_toml.specs.declared.toml_judge.TomlLevel.TheVariants.{Plain}
use Rattle.reuse_toml.specs.declared.toml_change.TomlSplice.{TomlSplice}
use Rattle.reuse_toml.specs.TomlText.{read_toml}
use Rattle.reuse_toml.specs.TomlPieces.{pieces_of, kind_of}
use Rattle.reuse_toml.specs.TomlPlaces.{key_named, place_behind}
use Rattle.reuse_toml.specs.TomlValues.{value_amended, piece_amended}

-- ---- the text

-- the bytes in the place of a piece
abbrev pub new_bytes : List ℕ → NewPiece → List ℕ
new_bytes piece Same = piece
new_bytes piece Removed = []
new_bytes piece (Changed bytes) = bytes

abbrev pub is_removed_piece : NewPiece → Bool
is_removed_piece Removed = true
is_removed_piece _ = false

abbrev pub if_ok : {A B : Type 0} → (A → Result B AmendTomlRefusal) → Result A AmendTomlRefusal
    → Result B AmendTomlRefusal
if_ok f (Ok x) = f x
if_ok f (Err e) = Err e

-- the text behind what is written already, from the pieces that are left
unfoldable pub pieces_amended : Amendments → TomlPlace → List ℕ → List (List ℕ) → Result (List ℕ) AmendTomlRefusal
pieces_amended a place written [] = Ok written
pieces_amended a place written (piece ∷ pieces) =
    if_ok (λ new. pieces_amended a (place_behind place (kind_of piece) piece (is_removed_piece new))
    (written ++ new_bytes piece new) pieces)
    (piece_amended a place (kind_of piece) piece)

abbrev pub text_amended : Amendments → List ℕ → Result (List ℕ) AmendTomlRefusal
text_amended a file = pieces_amended a (Line false) [] (pieces_of file)

-- ---- the table

-- what the value of a key is, and what the items of a list are
abbrev pub level_of_member : TomlLevel → List ℕ → TomlLevel
level_of_member Document name = if bytes_eq name (codes "annotations") then Annotations else Plain
level_of_member Annotation name = option_map_or ValuesOf (key_named name) Plain
level_of_member _ name = Plain

abbrev pub level_of_item : TomlLevel → TomlLevel
level_of_item Annotations = Annotation
level_of_item (ValuesOf key) = ValuesOf key
level_of_item _ = Plain

-- a text is what has become of another
abbrev pub is_new_text : Option (Option (List ℕ)) → List ℕ → Bool
is_new_text (Some (Some text)) new = bytes_eq new text
is_new_text _ new = false

abbrev pub is_text_amended : Amendments → TomlLevel → List ℕ → List ℕ → Bool
is_text_amended a (ValuesOf key) old new = is_new_text (value_amended a key old) new
is_text_amended a _ old new = bytes_eq new old

-- a value that goes
abbrev pub no_text_left : Option (Option (List ℕ)) → Bool
no_text_left (Some None) = true
no_text_left _ = false

abbrev pub is_removed_text : Amendments → TomlLevel → List ℕ → Bool
is_removed_text a (ValuesOf key) text = no_text_left (value_amended a key text)
is_removed_text a _ text = false

abbrev pub is_removed : Amendments → TomlLevel → Data → Bool
is_removed a level (string text) = is_removed_text a level text
is_removed a level _ = false

abbrev pub is_no_items : Items → Bool
is_no_items no_items = true
is_no_items (item d ds) = false

-- a list of values that would be left with none
abbrev pub is_emptied : Items → Items → Bool
is_emptied items new = not (is_no_items items) && is_no_items new

abbrev pub same_truth : Bool → Bool → Bool
same_truth true b = b
same_truth false b = not b

-- The second is the first with the values of the two keys amended, in the tables of `annotations`; a list of values
-- isn't emptied. Both are made of texts, whole numbers, truth values, lists and tables.
abbrev mutual
  pub is_amended : Amendments → TomlLevel → Data → Data → Bool
  is_amended a level (string text) (string new) = is_text_amended a level text new
  is_amended a level (integer number) (integer new) = int_eq number new
  is_amended a level (boolean truth) (boolean new) = same_truth truth new
  is_amended a level (array items) (array new) =
      not (is_emptied items new) && are_amended a (level_of_item level) items new
  is_amended a level (table members) (table new) = members_amended a level members new
  is_amended a level _ _ = false

  pub are_amended : Amendments → TomlLevel → Items → Items → Bool
  are_amended a level no_items new = is_no_items new
  are_amended a level (item d ds) no_items = is_removed a level d && are_amended a level ds no_items
  are_amended a level (item d ds) (item e es) =
      if is_removed a level d then are_amended a level ds (item e es)
      else is_amended a level d e && are_amended a level ds es

  pub members_amended : Amendments → TomlLevel → Members → Members → Bool
  members_amended a level no_members no_members = true
  members_amended a level (member k d ms) (member l e ns) =
      (bytes_eq k l && is_amended a (level_of_member level k) d e) && members_amended a level ms ns
  members_amended a level _ _ = false

-- the same table
abbrev pub is_same : Amendments → Members → Members → Bool
is_same a old new = members_amended a Plain old new

-- ---- the change

-- how many bytes two texts begin with alike, and how many they end with alike behind those
abbrev pub same_front : List ℕ → List ℕ → ℕ
same_front text other = common_prefix_len nat_eq text other

abbrev pub same_end : List ℕ → List ℕ → ℕ
same_end text other = common_prefix_len nat_eq (reverse text) (reverse other)

-- the shortest change of one range of bytes that makes the one text the other
abbrev pub change_behind : ℕ → List ℕ → List ℕ → TomlSplice
change_behind at file text =
    let end = same_end (drop at file) (drop at text) in
    record { at = at; old = length (drop at file) - end; new = take (length (drop at text) - end) (drop at text) }

abbrev pub change_between : List ℕ → List ℕ → TomlSplice
change_between file text = change_behind (same_front file text) file text

-- the change, if the text is read as the amended table; none if that is the same table
abbrev pub change_judged : Amendments → List ℕ → List ℕ → Members → Option Members
    → Result (Option TomlSplice) AmendTomlRefusal
change_judged a file text old None = Err CannotBeAmended
change_judged a file text old (Some new) =
    if not (members_amended a Document old new) then Err CannotBeAmended
    else if is_same a old new then Ok None
    else Ok (Some (change_between file text))

abbrev pub text_judged : Amendments → List ℕ → Members → List ℕ → Result (Option TomlSplice) AmendTomlRefusal
text_judged a file old text =
    if nat_lt LONGEST_FILE (length text) then Err TooLong else change_judged a file text old (read_toml text)

abbrev pub table_amended : Amendments → List ℕ → Option Members → Result (Option TomlSplice) AmendTomlRefusal
table_amended a file None = Err CannotBeAmended
table_amended a file (Some old) = if_ok (text_judged a file old) (text_amended a file)

-- what amendments make of a file: a change of one range of its bytes, or none
unfoldable pub toml_amendment_of : Amendments → List ℕ → Result (Option TomlSplice) AmendTomlRefusal
toml_amendment_of a file = table_amended a file (read_toml file)
