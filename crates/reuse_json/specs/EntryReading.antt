-- For private clauses: an entry's value as it is taken apart.
use Rattle.std.specs.Prelude.{ℕ, ◌==◌, nat_le, nat_lt, Bool, true, false, List, [], ◌∷◌, ◌++◌, length, codes, Option}
use Rattle.std.specs.Prelude.{Some, None, option_and_then, option_map, if◌then◌else◌}
use Rattle.std.specs.Result.{result_ok}
use Rattle.std.specs.Str.{bytes_eq}
use Rattle.hex.specs.Hex.{decode_of}
use Rattle.serde_json.specs.Data.{Data, Members}
use Rattle.serde_json.specs.Find.{as_array, as_object, as_str, get, get_member}
use Rattle.reuse_change.specs.Path.{is_path}
use Rattle.reuse_json.specs.Format.{knows}
use Rattle.reuse_json.specs.JsonReading.{◌>>=◌, first_member, field_in, if_none_left, format_in, number_in, read_items}
use Rattle.reuse_change.specs.declared.change.Change.{Change}
use Rattle.reuse_change.specs.declared.digest.Seal.{Seal}
use Rattle.reuse_change.specs.declared.change.Change.TheVariants.{Make, Drop, Splice}
use Rattle.reuse_change.specs.declared.command_name.CommandName.{CommandName}
use Rattle.reuse_change.specs.declared.command_name.CommandName.TheVariants.{Annotate, ConvertDep5, Download, Revert}
use Rattle.reuse_change.specs.declared.command_name.CommandName.TheVariants.{Amend, AddStyles}

-- the value is this text
abbrev pub if_text : List ℕ → Data → Option Unit
if_text text d = do
  s ← as_str d
  if bytes_eq s text then Some tt else None

abbrev pub hex_in : Data → Option (List ℕ)
hex_in d = do
  s ← as_str d
  result_ok (decode_of s)

abbrev pub path_in : Data → Option (List ℕ)
path_in d = do
  s ← as_str d
  if is_path s then Some s else None

abbrev pub command_from : List ℕ → Option CommandName
command_from name =
    if bytes_eq name (codes "annotate") then Some Annotate
    else if bytes_eq name (codes "convert-dep5") then Some ConvertDep5
    else if bytes_eq name (codes "download") then Some Download
    else if bytes_eq name (codes "revert") then Some Revert
    else if bytes_eq name (codes "amend") then Some Amend
    else if bytes_eq name (codes "styles") then Some AddStyles
    else None

abbrev pub command_in : Data → Option CommandName
command_in d = do
  name ← as_str d
  command_from name

-- the format knows the command
abbrev pub if_known : Bool → CommandName → Option Unit
if_known sealed command = if knows sealed command then Some tt else None

abbrev pub moment_in : Data → Option ℕ
moment_in d = do
  n ← number_in d
  if nat_le n 250000000000 then Some n else None

-- a digest of 32 bytes
abbrev pub digest_in : Data → Option (List ℕ)
digest_in d = do
  digest ← hex_in d
  if length digest == 32 then Some digest else None

-- the digest of the first member, which has to have this key, and the members after it; where the changes are not
-- sealed, none
unfoldable pub first_digest : Bool → List ℕ → Members → Option (Option (List ℕ) × Members)
first_digest false key fields = Some (None, fields)
first_digest true key fields = do
  first ← field_in digest_in key fields
  Some (Some first.0, first.1)

-- of a whole file that is made or removed: the path, the bytes, and the digest that stands first
unfoldable pub whole_in : Bool → (key kind name : List ℕ) → Data → Option (List ℕ × List ℕ × Option (List ℕ))
whole_in sealed key kind name d = do
  fields ← as_object d
  digest ← first_digest sealed key fields
  first ← field_in (if_text kind) (codes "kind") digest.1
  bytes ← field_in hex_in name first.1
  path ← field_in path_in (codes "path") bytes.1
  _ ← if_none_left path.1
  Some (path.0, bytes.0, digest.0)

unfoldable pub make_in : Bool → Data → Option Change
make_in sealed d = do
  whole ← whole_in sealed (codes "after") (codes "make") (codes "new") d
  Some (Make whole.0 whole.1 whole.2)

unfoldable pub drop_in : Bool → Data → Option Change
drop_in sealed d = do
  whole ← whole_in sealed (codes "before") (codes "drop") (codes "old") d
  Some (Drop whole.0 whole.1 whole.2)

-- both digests, or none
abbrev pub seal_of : Option (List ℕ) → Option (List ℕ) → Option Seal
seal_of (Some before) (Some after) = Some (record { before = before; after = after })
seal_of before after = None

-- from the path on
unfoldable pub splice_end_in : ℕ → List ℕ → List ℕ → Option Seal → Members → Option Change
splice_end_in at new old seal fields = do
  path ← field_in path_in (codes "path") fields
  rest ← field_in number_in (codes "rest") path.1
  _ ← if_none_left rest.1
  Some (Splice path.0 at old new rest.0 seal)

-- from the kind on
unfoldable pub splice_bytes_in : ℕ → Option Seal → Members → Option Change
splice_bytes_in at seal fields = do
  kind ← field_in (if_text (codes "splice")) (codes "kind") fields
  new ← field_in hex_in (codes "new") kind.1
  old ← field_in hex_in (codes "old") new.1
  splice_end_in at new.0 old.0 seal old.1

unfoldable pub splice_in : Bool → Data → Option Change
splice_in sealed d = do
  fields ← as_object d
  after ← first_digest sealed (codes "after") fields
  at ← field_in number_in (codes "at") after.1
  before ← first_digest sealed (codes "before") at.1
  splice_bytes_in at.0 (seal_of before.0 after.0) before.1

-- by the name of its kind
abbrev pub change_of_kind : Bool → List ℕ → Data → Option Change
change_of_kind sealed name d =
    if bytes_eq name (codes "make") then make_in sealed d
    else if bytes_eq name (codes "drop") then drop_in sealed d
    else if bytes_eq name (codes "splice") then splice_in sealed d
    else None

unfoldable pub change_in : Bool → Data → Option Change
change_in sealed d = do
  kind ← get (codes "kind") d
  name ← as_str kind
  change_of_kind sealed name d

unfoldable pub changes_in : Bool → Data → Option (List Change)
changes_in sealed d = do
  ds ← as_array d
  read_items (change_in sealed) ds

-- of an entry, all but its changes: the command, whether the format is the second, and the moment
unfoldable pub frame_in : Data → Option (CommandName × Bool × ℕ)
frame_in d = do
  fields ← as_object d
  changes ← first_member (codes "changes") fields
  command ← field_in command_in (codes "command") changes.1
  format ← field_in format_in (codes "format") command.1
  _ ← if_known format.0 command.0
  when ← field_in moment_in (codes "when") format.1
  _ ← if_none_left when.1
  Some (command.0, format.0, when.0)

-- changes, unless they are too many
abbrev pub if_few_changes : Option (List Change) → Option (List Change)
if_few_changes read = do
  changes ← read
  if nat_le (length changes) 100000 then Some changes else None

-- the changes of an object that is an entry of this format
abbrev pub listed_in : Bool → Members → Option (List Change)
listed_in sealed fields = if_few_changes (option_and_then (changes_in sealed) (get_member (codes "changes") fields))

-- the changes that were read, and the next one, unless they are too many
abbrev pub with_next : Option (List Change) → Option Change → Option (List Change)
with_next None next = None
with_next (Some changes) next =
    if nat_lt (length changes) 100000 then option_map (λ change. changes ++ change ∷ []) next else None
