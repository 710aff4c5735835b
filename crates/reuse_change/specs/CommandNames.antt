-- The name of a command, as entries and logs have it.
use Rattle.std.specs.Prelude.{ℕ, List, codes}
use Rattle.reuse_change.specs.declared.command_name.CommandName.{CommandName}
use Rattle.reuse_change.specs.declared.command_name.CommandName.TheVariants.{Annotate, ConvertDep5, Download, Revert}
use Rattle.reuse_change.specs.declared.command_name.CommandName.TheVariants.{Amend, AddStyles}

abbrev pub command_name : CommandName → List ℕ
command_name Annotate = codes "annotate"
command_name ConvertDep5 = codes "convert-dep5"
command_name Download = codes "download"
command_name Revert = codes "revert"
command_name Amend = codes "amend"
command_name AddStyles = codes "styles"
