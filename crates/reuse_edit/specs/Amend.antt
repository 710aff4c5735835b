-- What amend does at each path of a tree: the information is amended where it stands, in the neighbour that is there or
-- else in the file's own header block, and in a table, a file `REUSE.toml`, in its values. Where it is asked for, each
-- tag of a text is amended in place of the header block. Nothing is made, and no file is refused for want of a style
-- (docs/RULES.md, "What amend writes").
use Rattle.std.specs.Prelude.{ℕ, Bool, false, not, ◌&&◌, List, length, take, drop, nat_lt, Option, Some, None, is_none}
use Rattle.std.specs.Prelude.{Result, Ok, Err, if◌then◌else◌}
use Rattle.std.specs.FinMap.{get}
use Rattle.reuse_text.specs.Text.{spliced}
use Rattle.reuse_toml.specs.declared.toml_change.TomlSplice.{TomlSplice}
use Rattle.reuse_toml.specs.declared.toml_values.AmendTomlRefusal.{AmendTomlRefusal}
use Rattle.reuse_toml.specs.declared.toml_values.AmendTomlRefusal.TheVariants as toml_refusals
use Rattle.reuse_toml.specs.TomlAmending.{toml_amendment_of}
use Rattle.reuse_amend.specs.declared.amendments.Amendments.{Amendments}
use Rattle.reuse_amend.specs.declared.amendments.AmendRefusal.{AmendRefusal}
use Rattle.reuse_amend.specs.declared.amendments.AmendRefusal.TheVariants as tag_refusals
use Rattle.reuse_style.specs.declared.style.Style.{Style}
use Rattle.reuse_style.specs.declared.style.Kind.{Kind}
use Rattle.reuse_style.specs.declared.style.Kind.TheVariants as kind
use Rattle.reuse_header.specs.declared.amendment.AmendHeaderRefusal.{AmendHeaderRefusal}
use Rattle.reuse_style.specs.Kinds.{OwnKinds, kind_of_file, kind_unread}
use Rattle.reuse_text.specs.declared.TheConstants.{LONGEST_FILE}
use Rattle.reuse_header.specs.Amendment.{amendment_of, neighbour_amendment_of}
use Rattle.reuse_header.specs.Annotation as header
use Rattle.reuse_header.specs.Neighbour.{is_text}
use Rattle.reuse_tags.specs.Everywhere.{amended_everywhere}
use Rattle.reuse_change.specs.Files.{Files}
use Rattle.reuse_change.specs.Listing.{is_folder}
use Rattle.reuse_edit.specs.Annotate.{neighbour_of, edit_by}
use Rattle.reuse_command.specs.Covered.{is_covered}
use Rattle.reuse_command.specs.Command.{values_of}
use Rattle.reuse_edit.specs.Edit.{Edit, edit_between, edit_to}
pub use Rattle.reuse_edit.specs.HeaderFaults.{amend_refused_by}
use Rattle.reuse_edit.specs.Removed.{left_beside, left_inside}
use Rattle.reuse_edit.specs.Tables.{is_table}
use Rattle.reuse_command.specs.declared.amend_fault.AmendFault.TheVariants.{BadExpression, CannotBeAmended}
use Rattle.reuse_command.specs.declared.header_fault.HeaderFault.TheVariants as faults
use Rattle.reuse_command.specs.declared.command.FileAmendment.{FileAmendment}
use Rattle.reuse_command.specs.declared.command.FileAmendment.TheVariants.{InHeader, Everywhere, Remove}
use Rattle.reuse_command.specs.declared.command.HeaderRemoval.{HeaderRemoval}
use Rattle.reuse_command.specs.declared.command.Place.TheVariants as place
use Rattle.reuse_command.specs.declared.command.Scope.{Scope}
use Rattle.reuse_command.specs.declared.reply.Refusal.{Refusal}
use Rattle.reuse_command.specs.declared.failure.Failure.TheVariants.{Memory}
use Rattle.reuse_command.specs.declared.reply.Refusal.TheVariants.{NoSuchPath, IsFolder, NotCovered, TooLong, Amend}
use Rattle.reuse_command.specs.declared.reply.Refusal.TheVariants.{Failed, Header}

-- ---- the style of a file

abbrev pub style_of_kind : Kind → Option Style
style_of_kind (kind.Style style) = Some style
style_of_kind kind.Uncommentable = None
style_of_kind kind.Unknown = None

-- the one that is asked for
abbrev pub style_or_named : Option Style → Kind → Option Style
style_or_named (Some style) of_file = Some style
style_or_named None of_file = style_of_kind of_file

-- else that which a file of these bytes has by its name or by a rule of the tree
abbrev pub style_for : Scope → OwnKinds → List ℕ → List ℕ → Option Style
style_for scope own path bytes = style_or_named scope.style (kind_of_file own path bytes)

-- a kind that is known, and has no style
abbrev pub has_no_style : Option Kind → Bool
has_no_style None = false
has_no_style (Some of_file) = is_none (style_of_kind of_file)

-- there is no style, whatever the file holds
abbrev pub has_no_style_unread : Scope → OwnKinds → List ℕ → Bool
has_no_style_unread scope own path = is_none scope.style && has_no_style (kind_unread own path)

-- ---- what is done at a place

-- what amending makes of the bytes at a place; a refusal names the file
abbrev pub amendment_edit : List ℕ → List ℕ → List ℕ → Result (Option header.Edit) AmendHeaderRefusal
    → Result (Option Edit) Refusal
amendment_edit path at bytes (Ok None) = Ok None
amendment_edit path at bytes (Ok (Some edit)) = edit_by path at bytes (Ok edit)
amendment_edit path at bytes (Err refusal) = Err (amend_refused_by path refusal)

-- ---- each tag of a text

-- why it can't be amended, as a refusal that names the file
abbrev pub tags_refused_by : List ℕ → AmendRefusal → Refusal
tags_refused_by path tag_refusals.BadExpression = Amend path BadExpression
tags_refused_by path (tag_refusals.Memory e) = Failed Memory

-- a text that is amended takes the place of these bytes, none where a licence leaves the grammar; a refusal names the
-- file
abbrev pub text_edit : List ℕ → List ℕ → List ℕ → Option (List ℕ) → Result (Option Edit) Refusal
text_edit path at bytes None = Err (Amend path BadExpression)
text_edit path at bytes (Some made) =
    if nat_lt LONGEST_FILE (length made) then Err (Header path faults.TooLong) else Ok (edit_between at bytes made)

-- each tag of a text of these bytes is amended
abbrev pub amend_text : Amendments → List ℕ → List ℕ → List ℕ → Result (Option Edit) Refusal
amend_text values path at bytes = text_edit path at bytes (amended_everywhere values bytes)

-- ---- what is taken out of a header

-- the bytes at a place give way to the text that is left of them, unless that is refused
abbrev pub removal_edit : List ℕ → List ℕ → Result (Option (List ℕ)) Refusal → Result (Option Edit) Refusal
removal_edit at bytes (Ok left) = Ok (edit_to at bytes left)
removal_edit at bytes (Err refusal) = Err refusal

-- a file's own text, which is never emptied
abbrev pub some_text : Result (List ℕ) Refusal → Result (Option (List ℕ)) Refusal
some_text (Ok made) = Ok (Some made)
some_text (Err refusal) = Err refusal

-- ---- a neighbour

-- what amending makes of its bytes: of all that it says, or of each tag of it
abbrev pub amend_beside : FileAmendment → List ℕ → List ℕ → Result (Option Edit) Refusal
amend_beside (InHeader values) path beside =
    amendment_edit path (neighbour_of path) beside (neighbour_amendment_of values beside)
amend_beside (Everywhere values) path beside =
    if not (is_text beside) then Err (Header path faults.NotText)
    else amend_text values path (neighbour_of path) beside
amend_beside (Remove values removal) path beside =
    removal_edit (neighbour_of path) beside (left_beside values removal path beside)

-- the neighbour that is there, of these bytes
abbrev pub amend_neighbour : FileAmendment → List ℕ → List ℕ → Result (Option Edit) Refusal
amend_neighbour amendment path beside =
    if nat_lt 4096 (length (neighbour_of path)) then Err (TooLong path)
    else if nat_lt LONGEST_FILE (length beside) then Err (TooLong path)
    else amend_beside amendment path beside

-- ---- the file itself

-- its header block; without a style that isn't looked for
abbrev pub amend_block : Amendments → List ℕ → List ℕ → Option Style → Result (Option Edit) Refusal
amend_block values path bytes None = Ok None
amend_block values path bytes (Some style) =
    amendment_edit path path bytes (amendment_of style values bytes)

-- so it is where something is taken out of it
abbrev pub remove_block : Amendments → HeaderRemoval → List ℕ → List ℕ → Option Style → Result (Option Edit) Refusal
remove_block values removal path bytes None = Ok None
remove_block values removal path bytes (Some style) =
    removal_edit path bytes (some_text (left_inside values removal style path bytes))

-- the file is passed over, since it has no style whatever it holds: no header block is looked for, and no tag where it
-- is too long
abbrev pub is_passed_over : FileAmendment → Scope → OwnKinds → List ℕ → List ℕ → Bool
is_passed_over (InHeader values) scope own path bytes = has_no_style_unread scope own path
is_passed_over (Remove values removal) scope own path bytes = has_no_style_unread scope own path
is_passed_over (Everywhere values) scope own path bytes =
    nat_lt LONGEST_FILE (length bytes) && has_no_style_unread scope own path

-- a text of these bytes: its header block, or each tag, whatever its style
abbrev pub amend_own_text : FileAmendment → Scope → OwnKinds → List ℕ → List ℕ → Result (Option Edit) Refusal
amend_own_text (InHeader values) scope own path bytes = amend_block values path bytes (style_for scope own path bytes)
amend_own_text (Everywhere values) scope own path bytes = amend_text values path path bytes
amend_own_text (Remove values removal) scope own path bytes =
    remove_block values removal path bytes (style_for scope own path bytes)

-- the file, if it is text
abbrev pub amend_inside : FileAmendment → Scope → OwnKinds → List ℕ → List ℕ → Result (Option Edit) Refusal
amend_inside amendment scope own path bytes =
    if is_passed_over amendment scope own path bytes then Ok None
    else if nat_lt LONGEST_FILE (length bytes) then Err (TooLong path)
    else if not (is_text bytes) then Ok None
    else amend_own_text amendment scope own path bytes

-- the neighbour where it is there, else the file
abbrev pub amend_covered : FileAmendment → Scope → OwnKinds → List ℕ → List ℕ → Option (List ℕ)
    → Result (Option Edit) Refusal
amend_covered amendment scope own path bytes (Some beside) = amend_neighbour amendment path beside
amend_covered amendment scope own path bytes None = amend_inside amendment scope own path bytes

-- ---- a table

-- why it can't be amended, as a refusal that names it
abbrev pub table_refused_by : List ℕ → AmendTomlRefusal → Refusal
table_refused_by path toml_refusals.BadExpression = Amend path BadExpression
table_refused_by path toml_refusals.CannotBeAmended = Amend path CannotBeAmended
table_refused_by path toml_refusals.TooLong = TooLong path
table_refused_by path (toml_refusals.Memory e) = Failed Memory

-- a change of one range of its bytes
abbrev pub table_edit : List ℕ → List ℕ → TomlSplice → Edit
table_edit path bytes change = record {
  path = path;
  removed = take change.old (drop change.at bytes);
  written = change.new;
  file = Some (spliced bytes change.at change.old change.new);
}

-- what amending makes of its bytes; a refusal names the file
abbrev pub table_amendment : List ℕ → List ℕ → Result (Option TomlSplice) AmendTomlRefusal
    → Result (Option Edit) Refusal
table_amendment path bytes (Ok None) = Ok None
table_amendment path bytes (Ok (Some change)) = Ok (Some (table_edit path bytes change))
table_amendment path bytes (Err refusal) = Err (table_refused_by path refusal)

-- the text that amending makes, or the refusal
abbrev pub amended_table : List ℕ → Result (Option TomlSplice) AmendTomlRefusal → Result (List ℕ) AmendTomlRefusal
amended_table bytes (Ok None) = Ok bytes
amended_table bytes (Ok (Some change)) = Ok (spliced bytes change.at change.old change.new)
amended_table bytes (Err refusal) = Err refusal

abbrev pub amend_table : Amendments → List ℕ → List ℕ → Result (Option Edit) Refusal
amend_table amendments path bytes =
    if nat_lt LONGEST_FILE (length bytes) then Err (TooLong path)
    else table_amendment path bytes (toml_amendment_of amendments bytes)

-- ---- a path

-- what amend does at a path, where the tree has this
abbrev pub amended_where : FileAmendment → Scope → OwnKinds → Files → List ℕ → Option (List ℕ)
    → Result (Option Edit) Refusal
amended_where amendment scope own tree path None =
    if is_folder tree path then Err (IsFolder (place.Path path)) else Err (NoSuchPath path)
amended_where amendment scope own tree path (Some bytes) =
    if is_table path then amend_table (values_of amendment) path bytes
    else if not (is_covered path) then Err (NotCovered path)
    else amend_covered amendment scope own path bytes (get tree (neighbour_of path))

abbrev pub amended_at : FileAmendment → Scope → OwnKinds → Files → List ℕ → Result (Option Edit) Refusal
amended_at amendment scope own tree path = amended_where amendment scope own tree path (get tree path)
