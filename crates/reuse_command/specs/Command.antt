-- The names of commands, and the places that they are given (the reuse tool's manual pages; how a place is written:
-- docs/RULES.md).
use Rattle.std.specs.Prelude.{ℕ, Bool, true, false, List, Option, None, Some, filter_map, codes}
use Rattle.std.specs.List.{list_any}
use Rattle.reuse_change.specs.Entry.{IsEntry}
use Rattle.reuse_amend.specs.declared.amendments.Amendments.{Amendments}
use Rattle.reuse_json.specs.EntryText.{HavePaths}
use Rattle.reuse_command.specs.declared.command.Command.{Command}
use Rattle.reuse_command.specs.declared.command.Command.TheVariants.{Annotate, Amend, ConvertDep5, Download, Revert}
use Rattle.reuse_command.specs.declared.command.Command.TheVariants.{AddStyles}
use Rattle.reuse_change.specs.declared.command_name.CommandName.{CommandName}
use Rattle.reuse_change.specs.declared.command_name.CommandName.TheVariants as names
use Rattle.reuse_command.specs.declared.command.FileAmendment.{FileAmendment}
use Rattle.reuse_command.specs.declared.command.FileAmendment.TheVariants.{InHeader, Everywhere, Remove}
use Rattle.reuse_command.specs.declared.command.Place.{Place}
use Rattle.reuse_command.specs.declared.command.Place.TheVariants.{Root, Path}

abbrev pub name_of : Command → CommandName
name_of (Annotate places additions how scope) = names.Annotate
name_of (Amend places amendment scope) = names.Amend
name_of ConvertDep5 = names.ConvertDep5
name_of (Download ids texts) = names.Download
name_of (AddStyles additions) = names.AddStyles
name_of (Revert changes touched skip_moved) = names.Revert

-- an amendment, which may leave what it names
abbrev pub is_amend : Command → Bool
is_amend (Amend places amendment scope) = true
is_amend command = false

-- what is amended, wherever that stands in a file
abbrev pub values_of : FileAmendment → Amendments
values_of (InHeader values) = values
values_of (Everywhere values) = values
values_of (Remove values removal) = values

-- the changes that a revert takes back are those of an entry
abbrev pub HoldsEntry : Command → Type 0
HoldsEntry (Revert changes touched skip_moved) = IsEntry changes × HavePaths changes
HoldsEntry command = Unit {0}

-- whether a place is the root
abbrev pub is_root : Place → Bool
is_root Root = true
is_root (Path path) = false

abbrev pub has_root : List Place → Bool
has_root places = list_any is_root places

-- how a place is written
abbrev pub place_text : Place → List ℕ
place_text Root = codes "."
place_text (Path path) = path

-- the path of a place that isn't the root
abbrev pub path_in : Place → Option (List ℕ)
path_in Root = None
path_in (Path path) = Some path

abbrev pub paths_among : List Place → List (List ℕ)
paths_among places = filter_map path_in places
