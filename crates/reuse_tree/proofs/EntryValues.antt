-- The values whose texts are written.
use Rattle.std.proofs.Common.{ℕ, List, [], ◌∷◌, ◌++◌, map, codes, Option, Some, None}
use Rattle.std.specs.Option.{option_map}
use Rattle.hex.specs.Hex.{encode_lower}
use Rattle.serde_json.specs.Data.{Data, string}
use Rattle.reuse_change.specs.declared.change.Change.{Change}
use Rattle.reuse_change.specs.declared.change.Change.TheVariants.{Make, Drop, Splice}
use Rattle.reuse_change.specs.CommandNames.{command_name}
use Rattle.reuse_json.specs.EntryText.{is_any_sealed, whole_members, splice_members}
use Rattle.reuse_json.specs.Format.{format_number}
use Rattle.reuse_json.specs.Json.{count, object_of, array_of}
use Rattle.reuse_json.specs.declared.entry.Entry.{Entry}

-- bytes in small hexadecimal digits
abbrev pub hex_value : List ℕ → Data
hex_value bytes = string (encode_lower bytes)

-- a member whose value is a digest, where one is recorded
abbrev pub digest_members : List ℕ → Option (List ℕ) → List (List ℕ × Data)
digest_members key None = []
digest_members key (Some digest) = (key, hex_value digest) ∷ []

-- the value that is written for a change, with small digits
abbrev pub change_value : Change → Data
change_value (Make path new after) =
    object_of (digest_members (codes "after") after ++ whole_members (codes "make") (codes "new") path (hex_value new))
change_value (Drop path old before) = object_of
    (digest_members (codes "before") before ++ whole_members (codes "drop") (codes "old") path (hex_value old))
change_value (Splice path at old new rest seal) = object_of (
    digest_members (codes "after") (option_map (λ s. s.after) seal) ++ (codes "at", count at) ∷ digest_members
    (codes "before") (option_map (λ s. s.before) seal) ++ splice_members path (hex_value old) (hex_value new) rest)

-- the value that is written for an entry
abbrev pub entry_value : Entry → Data
entry_value e = object_of (
    (codes "changes", array_of (map change_value e.changes)) ∷
    (codes "command", string (command_name e.command)) ∷
    (codes "format", count (format_number (is_any_sealed e.changes))) ∷
    (codes "when", count e.when) ∷ [])
