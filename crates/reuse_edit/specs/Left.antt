-- Which paths amend leaves: what speaks for them still names a value that the call names (docs/RULES.md, "What amend
-- leaves").
use Rattle.std.specs.Prelude.{ℕ, Bool, false, not, ◌&&◌, nat_lt, List, length, Option, None, Result, Ok, Err}
use Rattle.std.specs.Option.{option_or, option_map_or}
use Rattle.reuse_text.specs.declared.TheConstants.{LONGEST_FILE}
use Rattle.reuse_amend.specs.declared.amendments.Amendments.{Amendments}
use Rattle.reuse_tags.specs.Left.{leaves_values}
use Rattle.reuse_header.specs.Neighbour.{is_text}
use Rattle.reuse_change.specs.Files.{Files}
use Rattle.reuse_edit.specs.Annotate.{neighbour_of}
use Rattle.reuse_edit.specs.Edit.{Edit, file_then}
use Rattle.reuse_edit.specs.Tables.{is_table}
use Rattle.reuse_command.specs.declared.reply.Refusal.{Refusal}

-- what tells the licensing of a path behind what is done there: its neighbour, where that is there then, else the file
-- itself; none where that is refused
abbrev pub telling_text : Files → List ℕ → Result (Option Edit) Refusal → Option (List ℕ)
telling_text tree path (Err refusal) = None
telling_text tree path (Ok given) = option_or (file_then tree given (neighbour_of path)) (file_then tree given path)

-- bytes that are a text in which a value stands that the amendments name
abbrev pub still_names : Amendments → List ℕ → Bool
still_names amendments bytes =
    not (nat_lt LONGEST_FILE (length bytes)) && leaves_values amendments bytes && is_text bytes

-- what tells the licensing of the path is such a text then
abbrev pub still_tells : Amendments → Files → List ℕ → Result (Option Edit) Refusal → Bool
still_tells amendments tree path given = option_map_or (still_names amendments) (telling_text tree path given) false

-- so it is of a path that is left; a table is amended in all of its values
abbrev pub is_left : Amendments → Files → List ℕ → Result (Option Edit) Refusal → Bool
is_left amendments tree path given = not (is_table path) && still_tells amendments tree path given
