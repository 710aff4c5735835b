-- What a command gives on a whole tree: the tree after it, or the first refusal.
use Rattle.std.specs.Prelude.{ℕ, ◌+◌, ◌*◌, not, ◌&&◌, ◌||◌, Bool, List, [], ◌∷◌, length, map, Option, Some, None}
use Rattle.std.specs.Prelude.{Result, Ok, Err, nat_lt, if◌then◌else◌}
use Rattle.std.specs.List.{sum_by}
use Rattle.std.specs.FinMap.{insert, remove}
use Rattle.reuse_change.specs.declared.layout.TheConstants.{LARGEST_ENTRY, MOST_CHANGES}
use Rattle.reuse_command.specs.declared.command.HeaderAdditions.{HeaderAdditions}
use Rattle.reuse_header.specs.declared.annotation.How.{How}
use Rattle.reuse_change.specs.Files.{Files}
use Rattle.reuse_command.specs.Command.{has_root}
use Rattle.reuse_plan.specs.Conversion.{conversion_edits}
use Rattle.reuse_plan.specs.Downloads.{downloads_at}
use Rattle.reuse_edit.specs.Edit.{Edit}
use Rattle.reuse_edit.specs.PathEdits.{PathEdit, refused_alone, all_or_none, edits_in}
use Rattle.reuse_plan.specs.Reverting.{reverted_at}
use Rattle.reuse_plan.specs.StyleEdits.{style_edits}
use Rattle.reuse_plan.specs.TreeStyles.{styles_in}
use Rattle.reuse_style.specs.Kinds.{OwnKinds}
use Rattle.reuse_plan.specs.Selected.{amended_paths, selected_paths}
use Rattle.reuse_command.specs.declared.command.Command.{Command}
use Rattle.reuse_command.specs.declared.command.Command.TheVariants.{Annotate, Amend, ConvertDep5, Download, Revert}
use Rattle.reuse_command.specs.declared.command.Command.TheVariants.{AddStyles}
use Rattle.reuse_command.specs.declared.command.FileAmendment.{FileAmendment}
use Rattle.reuse_command.specs.declared.command.Place.{Place}
use Rattle.reuse_command.specs.declared.command.Place.TheVariants as place
use Rattle.reuse_command.specs.declared.command.Scope.{Scope}
use Rattle.reuse_command.specs.declared.reply.Refusal.{Refusal}
use Rattle.reuse_command.specs.declared.reply.Refusal.TheVariants.{IsFolder, TooMany}
use Rattle.reuse_edit.specs.AtPath.{annotation_at, amendment_at}

-- ---- edits

-- the tree with this at the path
abbrev pub with_file : Files → List ℕ → Option (List ℕ) → Files
with_file tree path None = remove tree path
with_file tree path (Some bytes) = insert tree path bytes

-- the tree after the edits, which are of distinct paths
abbrev pub edited : Files → List Edit → Files
edited tree [] = tree
edited tree (edit ∷ edits) = with_file (edited tree edits) edit.path edit.file

-- what an edit counts for in the size of an entry
abbrev pub edit_size : Edit → ℕ
edit_size edit = 512 + 6 * length edit.path + 2 * length edit.removed + 2 * length edit.written

-- more than an entry holds
abbrev pub is_too_many : List Edit → Bool
is_too_many edits = nat_lt MOST_CHANGES (length edits) || nat_lt LARGEST_ENTRY (256 + sum_by edit_size edits)

-- the size of the entry that records them
abbrev pub recorded_size : Result (List Edit) Refusal → ℕ
recorded_size (Err refusal) = 0
recorded_size (Ok edits) = 256 + sum_by edit_size edits

-- how many files they change
abbrev pub edit_count : Result (List Edit) Refusal → ℕ
edit_count (Err refusal) = 0
edit_count (Ok edits) = length edits

-- ---- commands, path by path

-- one for each path that is gone through, in byte order, without repeats; the root stands alone where folders aren't
-- gone through, since it is one
abbrev pub at_places : (List ℕ → PathEdit) → Scope → List Place → List (List ℕ) → List PathEdit
at_places at scope places paths =
    if not scope.recursive && has_root places then refused_alone (IsFolder place.Root) else map at paths

-- at these places; the refusal of the tree's styles stands alone
abbrev pub annotations_by : List Place → HeaderAdditions → How → Scope → Files → Result OwnKinds Refusal → List PathEdit
annotations_by places additions how scope tree (Err refusal) = refused_alone refusal
annotations_by places additions how scope tree (Ok own) =
    at_places (annotation_at how scope additions own tree) scope places (selected_paths scope places tree)

abbrev pub amendments_by : List Place → FileAmendment → Scope → Files → Result OwnKinds Refusal → List PathEdit
amendments_by places amendment scope tree (Err refusal) = refused_alone refusal
amendments_by places amendment scope tree (Ok own) =
    at_places (amendment_at amendment scope own tree) scope places (amended_paths scope places tree)

-- what a command does, path by path
abbrev pub path_edits_of : Command → Files → List PathEdit
path_edits_of (Annotate places additions how scope) tree =
    annotations_by places additions how scope tree (styles_in tree)
path_edits_of (Amend places amendment scope) tree =
    amendments_by places amendment scope tree (styles_in tree)
path_edits_of ConvertDep5 tree = all_or_none (conversion_edits tree)
path_edits_of (Download ids texts) tree = downloads_at ids texts tree
path_edits_of (AddStyles additions) tree = all_or_none (style_edits additions tree)
path_edits_of (Revert changes touched skip_moved) tree = map (reverted_at touched skip_moved tree) changes

-- ---- the outcome

-- the edits of all paths, or the first refusal
abbrev pub edits_of : Command → Files → Result (List Edit) Refusal
edits_of command tree = edits_in (path_edits_of command tree)

-- the tree after the edits, unless they are too many
abbrev pub tree_after : Files → Result (List Edit) Refusal → Result Files Refusal
tree_after tree (Err refusal) = Err refusal
tree_after tree (Ok edits) = if is_too_many edits then Err TooMany else Ok (edited tree edits)

unfoldable pub outcome_of : Command → Files → Result Files Refusal
outcome_of command tree = tree_after tree (edits_of command tree)
