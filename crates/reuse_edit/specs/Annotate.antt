-- What annotate does at each path of a tree: which place is written, and with what. The options are those of the reuse
-- tool's manual page of `annotate`; what that page leaves open is decided here.
use Rattle.std.specs.Prelude.{ℕ, Bool, true, false, not, ◌&&◌, ◌||◌, List, [], ◌++◌, length, take, drop, codes, nat_lt}
use Rattle.std.specs.Prelude.{Option, Some, None, is_some, is_none, Result, Ok, Err, if◌then◌else◌}
use Rattle.std.specs.List.{list_any}
use Rattle.std.specs.Str.{bytes_eq}
use Rattle.std.specs.FinMap.{get}
use Rattle.reuse_command.specs.declared.command.HeaderAdditions.{HeaderAdditions}
use Rattle.reuse_style.specs.declared.style.Style.{Style}
use Rattle.reuse_style.specs.declared.style.Kind.{Kind}
use Rattle.reuse_style.specs.declared.style.Kind.TheVariants as kind
use Rattle.reuse_header.specs.declared.annotation.How.{How}
use Rattle.reuse_style.specs.Kinds.{OwnKinds, kind_of_file, kind_unread}
use Rattle.reuse_text.specs.declared.TheConstants.{LONGEST_FILE}
use Rattle.reuse_header.specs.Header.{header_of, neighbour_contents}
use Rattle.reuse_header.specs.Tagged.{has_tag}
use Rattle.reuse_header.specs.Annotation as header
use Rattle.reuse_header.specs.Neighbour.{is_text}
use Rattle.reuse_change.specs.Files.{Files}
use Rattle.reuse_command.specs.Covered.{is_covered}
use Rattle.reuse_change.specs.Listing.{is_folder}
use Rattle.reuse_edit.specs.Annotation.{annotation_of, neighbour_annotation_of}
use Rattle.reuse_edit.specs.Edit.{Edit}
use Rattle.reuse_edit.specs.HeaderFaults.{text_refused_by}
use Rattle.reuse_words.specs.declared.refusal.TextHeaderRefusal.{TextHeaderRefusal}
use Rattle.reuse_change.specs.Clash.{is_clash}
use Rattle.reuse_command.specs.declared.command.Scope.{Scope}
use Rattle.reuse_command.specs.declared.command.Unknown.{Unknown}
use Rattle.reuse_command.specs.declared.command.Unknown.TheVariants as unknown
use Rattle.reuse_command.specs.declared.command.Place.TheVariants as place
use Rattle.reuse_edit.specs.declared.target.Target.{Target}
use Rattle.reuse_edit.specs.declared.target.Target.TheVariants.{Inside, InNeighbour, Nowhere}
use Rattle.reuse_command.specs.declared.reply.Refusal.{Refusal}
use Rattle.reuse_command.specs.declared.reply.Refusal.TheVariants.{NoSuchPath, IsFolder, NotCovered, TooLong}
use Rattle.reuse_command.specs.declared.reply.Refusal.TheVariants.{Unrecognised, Clash}

-- ---- where a file's licensing information goes

-- the file beside a file that holds its licensing information
abbrev pub neighbour_of : List ℕ → List ℕ
neighbour_of path = path ++ codes ".license"

-- where the name has no style: as it is asked for
abbrev pub target_of_unknown : Unknown → List ℕ → Result Target Refusal
target_of_unknown unknown.Refuse path = Err (Unrecognised path)
target_of_unknown unknown.Neighbour path = Ok InNeighbour
target_of_unknown unknown.Skip path = Ok Nowhere

-- by the kind of the file
abbrev pub target_by_kind : Unknown → List ℕ → Kind → Result Target Refusal
target_by_kind asked path (kind.Style style) = Ok (Inside style)
target_by_kind asked path kind.Uncommentable = Ok InNeighbour
target_by_kind asked path kind.Unknown = target_of_unknown asked path

-- by the style that is asked for, else by the kind that the file has by its name or by a rule
abbrev pub target_by_style : Scope → OwnKinds → List ℕ → List ℕ → Option Style → Result Target Refusal
target_by_style scope own path bytes (Some style) = Ok (Inside style)
target_by_style scope own path bytes None = target_by_kind scope.unknown path (kind_of_file own path bytes)

-- by the bytes of the file: a binary goes to its neighbour
abbrev pub target_by_bytes : Scope → OwnKinds → List ℕ → List ℕ → Result Target Refusal
target_by_bytes scope own path bytes =
    if nat_lt LONGEST_FILE (length bytes) then Err (TooLong path)
    else if not (is_text bytes) then Ok InNeighbour
    else target_by_style scope own path bytes scope.style

-- a kind that is known, and takes no comment
abbrev pub is_uncommentable : Option Kind → Bool
is_uncommentable None = false
is_uncommentable (Some (kind.Style style)) = false
is_uncommentable (Some kind.Uncommentable) = true
is_uncommentable (Some kind.Unknown) = false

-- the target is the neighbour, whether that is there or not, and whatever the file holds: it is asked for, or the file
-- takes no comment, by its name or by a rule, and no style is asked for
abbrev pub goes_to_neighbour_unread : Scope → OwnKinds → List ℕ → Bool
goes_to_neighbour_unread scope own path =
    scope.force_dot_license || (is_none scope.style && is_uncommentable (kind_unread own path))

-- the target is the neighbour, whatever the file holds: so, or since it is there
abbrev pub goes_to_neighbour : Scope → OwnKinds → Files → List ℕ → Bool
goes_to_neighbour scope own tree path =
    is_some (get tree (neighbour_of path)) || goes_to_neighbour_unread scope own path

abbrev pub target_of : Scope → OwnKinds → Files → List ℕ → List ℕ → Result Target Refusal
target_of scope own tree path bytes =
    if goes_to_neighbour scope own tree path then Ok InNeighbour else target_by_bytes scope own path bytes

-- ---- what is done there

-- what an annotation makes of the bytes at a place; a refusal names the file
abbrev pub edit_by : List ℕ → List ℕ → List ℕ → Result header.Edit TextHeaderRefusal → Result (Option Edit) Refusal
edit_by path at bytes (Err refusal) = Err (text_refused_by path refusal)
edit_by path at bytes (Ok edit) =
    if bytes_eq (header.edited bytes edit) bytes then Ok None
    else Ok (Some (record {
      path = at;
      removed = take edit.old_len (drop edit.start bytes);
      written = header.new_bytes edit;
      file = Some (header.edited bytes edit);
    }))

-- a file's own comment, unless it has a header block and such files are skipped
abbrev pub edit_inside : How → Scope → HeaderAdditions → List ℕ → List ℕ → Style → Result (Option Edit) Refusal
edit_inside how scope additions path bytes style =
    if scope.skip_existing && is_some (header_of style bytes) then Ok None
    else edit_by path path bytes (annotation_of style how additions bytes)

-- whether a neighbour has licensing information
abbrev pub neighbour_is_tagged : List ℕ → Bool
neighbour_is_tagged bytes = list_any (has_tag []) (neighbour_contents bytes)

-- the neighbour that is there, or that is made
abbrev pub edit_neighbour : How → Scope → HeaderAdditions → Files → List ℕ → Option (List ℕ)
    → Result (Option Edit) Refusal
edit_neighbour how scope additions tree path None =
    if is_clash tree (neighbour_of path) then Err (Clash (neighbour_of path))
    else edit_by path (neighbour_of path) [] (neighbour_annotation_of how additions [])
edit_neighbour how scope additions tree path (Some bytes) =
    if nat_lt LONGEST_FILE (length bytes) then Err (TooLong path)
    else if scope.skip_existing && neighbour_is_tagged bytes then Ok None
    else edit_by path (neighbour_of path) bytes (neighbour_annotation_of how additions bytes)

abbrev pub edit_of_neighbour : How → Scope → HeaderAdditions → Files → List ℕ → Result (Option Edit) Refusal
edit_of_neighbour how scope additions tree path =
    if nat_lt 4096 (length (neighbour_of path)) then Err (TooLong path)
    else edit_neighbour how scope additions tree path (get tree (neighbour_of path))

abbrev pub edit_target : How → Scope → HeaderAdditions → Files → List ℕ → List ℕ → Result Target Refusal
    → Result (Option Edit) Refusal
edit_target how scope additions tree path bytes (Err refusal) = Err refusal
edit_target how scope additions tree path bytes (Ok Nowhere) = Ok None
edit_target how scope additions tree path bytes (Ok InNeighbour) = edit_of_neighbour how scope additions tree path
edit_target how scope additions tree path bytes (Ok (Inside style)) = edit_inside how scope additions path bytes style

-- what annotate does at a path, where the tree has this
abbrev pub annotated_where : How → Scope → HeaderAdditions → OwnKinds → Files → List ℕ → Option (List ℕ)
    → Result (Option Edit) Refusal
annotated_where how scope additions own tree path None =
    if is_folder tree path then Err (IsFolder (place.Path path)) else Err (NoSuchPath path)
annotated_where how scope additions own tree path (Some bytes) =
    if not (is_covered path) then Err (NotCovered path)
    else edit_target how scope additions tree path bytes (target_of scope own tree path bytes)

abbrev pub annotated_at : How → Scope → HeaderAdditions → OwnKinds → Files → List ℕ → Result (Option Edit) Refusal
annotated_at how scope additions own tree path = annotated_where how scope additions own tree path (get tree path)
