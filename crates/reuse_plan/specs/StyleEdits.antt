-- What an addition of styles does on a tree: lines behind those of `.reuse/comments.toml` and of `.reuse/styles.toml`
-- (this project's own; docs/RULES.md, "Styles").
use Rattle.std.specs.Prelude.{ℕ, ◌+◌, List, [], length, nat_lt, Option, Some, None, Result, Ok, Err, if◌then◌else◌}
use Rattle.std.specs.FinMap.{get}
use Rattle.reuse_text.specs.Text.{is_empty}
use Rattle.reuse_text.specs.declared.TheConstants.{LONGEST_FILE}
use Rattle.reuse_ready.specs.Additions.{lines_added}
use Rattle.reuse_ready.specs.declared.additions.StyleAdditions.{StyleAdditions}
use Rattle.reuse_ready.specs.declared.own_lines.AddedLines.{AddedLines}
use Rattle.reuse_ready.specs.declared.own_lines.AdditionRefusal.{AdditionRefusal}
use Rattle.reuse_ready.specs.declared.own_lines.AdditionRefusal.TheVariants as refused
use Rattle.reuse_change.specs.Clash.{is_clash}
use Rattle.reuse_change.specs.Files.{Files}
use Rattle.reuse_edit.specs.Edit.{Edit, made, appended}
use Rattle.reuse_edit.specs.PathEdits.{or_first}
use Rattle.reuse_style.specs.Kinds.{OwnKinds}
use Rattle.reuse_plan.specs.TreeStyles.{styles_in, styles_path, comments_path}
use Rattle.reuse_command.specs.declared.amend_fault.AmendFault.TheVariants.{CannotBeAmended}
use Rattle.reuse_command.specs.declared.failure.Failure.TheVariants.{Memory}
use Rattle.reuse_command.specs.declared.reply.Refusal.{Refusal}
use Rattle.reuse_command.specs.declared.reply.Refusal.TheVariants.{Amend, Clash, Failed, TooLong}

-- ---- one file

-- lines come behind those that the file has, if it is there
abbrev pub file_with : Files → List ℕ → Option (List ℕ) → List ℕ → Result (Option Edit) Refusal
file_with tree path None lines =
    if nat_lt LONGEST_FILE (length lines) then Err (TooLong path)
    else if is_clash tree path then Err (Clash path) else Ok (Some (made path lines))
file_with tree path (Some bytes) lines =
    if nat_lt LONGEST_FILE (length bytes + length lines) then Err (TooLong path)
    else Ok (Some (appended path bytes lines))

-- where there are none, it stays
abbrev pub lines_edit : Files → List ℕ → Option (List ℕ) → List ℕ → Result (Option Edit) Refusal
lines_edit tree path file lines = if is_empty lines then Ok None else file_with tree path file lines

-- ---- both files

-- a refusal of what would be read back as one of the command
abbrev pub addition_refusal : AdditionRefusal → Refusal
addition_refusal (refused.Memory e) = Failed Memory
addition_refusal refused.Comments = Amend comments_path CannotBeAmended
addition_refusal refused.Styles = Amend styles_path CannotBeAmended

abbrev pub lines_read : Result AddedLines AdditionRefusal → Result AddedLines Refusal
lines_read (Ok added) = Ok added
lines_read (Err refusal) = Err (addition_refusal refusal)

-- what is added, unless the tree's own styles are refused
abbrev pub lines_for : StyleAdditions → Files → Result OwnKinds Refusal → Result AddedLines Refusal
lines_for additions tree (Err refusal) = Err refusal
lines_for additions tree (Ok own) = lines_read (lines_added additions (get tree styles_path) (get tree comments_path)
    own.names own.comments.styles)

-- the file of comments stands before that of styles
abbrev pub edits_for : Files → Result AddedLines Refusal → Result (List Edit) Refusal
edits_for tree (Err refusal) = Err refusal
edits_for tree (Ok added) =
    or_first (lines_edit tree comments_path (get tree comments_path) added.comments)
    (or_first (lines_edit tree styles_path (get tree styles_path) added.styles) (Ok []))

abbrev pub style_edits : StyleAdditions → Files → Result (List Edit) Refusal
style_edits additions tree = edits_for tree (lines_for additions tree (styles_in tree))
