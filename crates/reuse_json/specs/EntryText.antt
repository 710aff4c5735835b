-- An entry of the journal: its text.
use Rattle.std.specs.Prelude.{◌≡◌, ℕ, zero, suc, ◌≤◌, Bool, true, List, [], ◌∷◌, ◌++◌, length, map, codes, decimal}
use Rattle.std.specs.Prelude.{Option, Some, None, Ok, IsUtf8, IsTrue}
use Rattle.std.specs.Option.{option_map}
use Rattle.std.specs.List.{All, join_with_byte, list_any, AllZip}
use Rattle.json.specs.Print.{quoted}
use Rattle.hex.specs.Hex.{encode_lower, decode_of, IsBytes}
use Rattle.serde_json.specs.Data.{Data, string}
use Rattle.reuse_change.specs.declared.layout.TheConstants.{LARGEST_ENTRY}
use Rattle.reuse_change.specs.Path.{is_path}
use Rattle.reuse_change.specs.Change.{path_of, digest_after, digest_before, is_sealed}
use Rattle.reuse_change.specs.declared.change.Change.{Change}
use Rattle.reuse_change.specs.declared.change.Change.TheVariants.{Make, Drop, Splice}
use Rattle.reuse_change.specs.Entry.{removed_by, written_by, AreAllSealed, IsEntry}
use Rattle.reuse_json.specs.Format.{format_number, knows}
use Rattle.reuse_json.specs.Json.{IsJson, count, object_of, array_of}
use Rattle.reuse_json.specs.declared.entry.Entry.{Entry}
use Rattle.reuse_change.specs.CommandNames.{command_name}

-- ---- the text that is written

-- bytes in small hexadecimal digits, as a JSON string
abbrev pub hex_text : List ℕ → List ℕ
hex_text bytes = quoted (encode_lower bytes)

-- a member whose value is a digest, where one is recorded
abbrev pub digest_text : List ℕ → Option (List ℕ) → List ℕ
digest_text key None = []
digest_text key (Some digest) = codes "\"" ++ key ++ codes "\":" ++ hex_text digest ++ codes ","

-- the making or the removal of a whole file, of which the bytes follow its kind
abbrev pub whole_text : (key : List ℕ) (digest : Option (List ℕ)) (kind bytes path : List ℕ) → List ℕ
whole_text key digest kind bytes path =
    codes "{" ++ digest_text key digest ++ kind ++ hex_text bytes ++ codes ",\"path\":" ++ quoted path ++ codes "}"

-- a change, with the members in the order of their keys
abbrev pub change_text : Change → List ℕ
change_text (Make path new after) = whole_text (codes "after") after (codes "\"kind\":\"make\",\"new\":") new path
change_text (Drop path old before) = whole_text (codes "before") before (codes "\"kind\":\"drop\",\"old\":") old path
change_text (Splice path at old new rest seal) =
    codes "{" ++ digest_text (codes "after") (option_map (λ s. s.after) seal) ++ codes "\"at\":" ++ decimal at ++ codes
    "," ++ digest_text (codes "before") (option_map (λ s. s.before) seal)
    ++ codes "\"kind\":\"splice\",\"new\":" ++ hex_text new ++ codes ",\"old\":" ++ hex_text old ++ codes ",\"path\":"
    ++ quoted path ++ codes ",\"rest\":" ++ decimal rest ++ codes "}"

-- whether the entry of these changes is sealed
abbrev pub is_any_sealed : List Change → Bool
is_any_sealed changes = list_any is_sealed changes

-- an entry, without space: in the second format where it is sealed
abbrev pub entry_text : Entry → List ℕ
entry_text e =
    codes "{\"changes\":[" ++ join_with_byte 44
    (map change_text e.changes) ++ codes "],\"command\":\"" ++ command_name e.command
    ++ codes "\",\"format\":" ++ decimal
    (format_number (is_any_sealed e.changes)) ++ codes ",\"when\":" ++ decimal e.when ++ codes "}"

-- ---- the value that is read

-- bytes as a string of hexadecimal digits, small or capital
abbrev pub IsHex : List ℕ → Data → Type 0
IsHex bytes value = (digits : List ℕ) × (value ≡ string digits) × (decode_of digits ≡ Ok bytes)

-- a digest so: it has 32 bytes
abbrev pub IsHexDigest : List ℕ → Data → Type 0
IsHexDigest digest value = IsHex digest value × (length digest ≡ 32)

-- the members of a whole file that is made or removed, from the kind on
abbrev pub whole_members : (kind name path : List ℕ) → Data → List (List ℕ × Data)
whole_members kind name path bytes = (codes "kind", string kind) ∷ (name, bytes) ∷ (codes "path", string path) ∷ []

-- those of a splice after its place
abbrev pub splice_members : List ℕ → Data → Data → ℕ → List (List ℕ × Data)
splice_members path old new rest =
    (codes "kind", string (codes "splice")) ∷
    (codes "new", new) ∷
    (codes "old", old) ∷
    (codes "path", string path) ∷
    (codes "rest", count rest) ∷ []

-- a whole file that is made or removed: an object with just these keys and values, and in front of them the key of the
-- digest, where one is recorded
abbrev pub IsWholeValue : (key : List ℕ) → Option (List ℕ) → (kind name bytes path : List ℕ) → Data → Type 0
IsWholeValue key None kind name bytes path value =
    (b : Data) × IsHex bytes b × (value ≡ object_of (whole_members kind name path b))
IsWholeValue key (Some digest) kind name bytes path value = (b : Data) × IsHex bytes b × (d : Data)
    × IsHexDigest digest d × (value ≡ object_of ((key, d) ∷ whole_members kind name path b))

-- a change: an object with just these keys and values
abbrev pub IsChangeValue : Change → Data → Type 0
IsChangeValue (Make path new after) value =
    IsWholeValue (codes "after") after (codes "make") (codes "new") new path value
IsChangeValue (Drop path old before) value =
    IsWholeValue (codes "before") before (codes "drop") (codes "old") old path value
IsChangeValue (Splice path at old new rest None) value = (n : Data) × (o : Data) × IsHex new n × IsHex old o
    × (value ≡ object_of ((codes "at", count at) ∷ splice_members path o n rest))
IsChangeValue (Splice path at old new rest (Some seal)) value = (n : Data) × (o : Data) × IsHex new n × IsHex old o
    × (a : Data) × (b : Data) × IsHexDigest seal.after a × IsHexDigest seal.before b
    × (value ≡ object_of
    ((codes "after", a) ∷ (codes "at", count at) ∷ (codes "before", b) ∷ splice_members path o n rest))

-- an entry: an object with just these keys and values, in the second format where its changes are sealed, of a command
-- that the format knows
abbrev pub IsEntryValue : Entry → Data → Type 0
IsEntryValue e value = (sealed : Bool) × (values : List Data) × AreAllSealed sealed e.changes
    × (knows sealed e.command ≡ true) × AllZip IsChangeValue e.changes values × (value ≡ object_of (
    (codes "changes", array_of values) ∷
    (codes "command", string (command_name e.command)) ∷
    (codes "format", count (format_number sealed)) ∷
    (codes "when", count e.when) ∷ []))

-- `serde_json` reads the text as a value that stands for the entry
abbrev pub IsJsonEntry : List ℕ → Entry → Type 0
IsJsonEntry text e = (value : Data) × IsJson text value × IsEntryValue e value

-- ---- which entries are good

-- the paths of the changes are paths
abbrev pub HavePaths : List Change → Type 0
HavePaths changes = All (λ change. IsTrue (is_path (path_of change))) changes

-- The text is good, and stands for the entry.
pub record IsGoodEntry (text : List ℕ) (entry : Entry) : Type 0 where
  pub short : length text ≤ LARGEST_ENTRY
  pub value : IsJsonEntry text entry
  pub changes : IsEntry entry.changes
  pub paths : HavePaths entry.changes
  pub when : entry.when ≤ 250_000_000_000

-- ---- which entries can be written

-- the digest, where one is recorded, is of 32 bytes
abbrev pub AreDigestBytes : Option (List ℕ) → Type 0
AreDigestBytes None = Unit {0}
AreDigestBytes (Some digest) = IsBytes digest × (length digest ≡ 32)

-- what every change in memory is: its path is one, as UTF-8, its bytes are bytes, and its digests are digests
pub record IsChangeInMemory (change : Change) : Type 0 where
  pub path : IsTrue (is_path (path_of change))
  pub utf8 : IsUtf8 (path_of change)
  pub removed : IsBytes (removed_by change)
  pub written : IsBytes (written_by change)
  pub before : AreDigestBytes (digest_before change)
  pub after : AreDigestBytes (digest_after change)

-- an entry in memory, of good changes
pub record IsEntryInMemory (entry : Entry) : Type 0 where
  pub changes : IsEntry entry.changes
  pub in_memory : All IsChangeInMemory entry.changes
  pub when : entry.when ≤ 250_000_000_000

-- an entry whose text is good: its format knows its command
pub record IsSoundEntry (entry : Entry) : Type 0 where
  pub held : IsEntryInMemory entry
  pub known : knows (is_any_sealed entry.changes) entry.command ≡ true

-- ---- for private clauses

-- what stands before the change with this number
abbrev pub comma_before : ℕ → List ℕ
comma_before zero = []
comma_before (suc n) = codes ","
