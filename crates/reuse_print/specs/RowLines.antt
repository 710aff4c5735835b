-- The lines that the rows of a log are printed as.
use Rattle.std.specs.Prelude.{◌≡◌, ℕ, Bool, List, [], ◌∷◌, ◌++◌, if◌then◌else◌, codes}
use Rattle.std.specs.Fmt.{decimal}
use Rattle.jiff.specs.Types.{Date}
use Rattle.jiff.specs.Words.{date_text}
use Rattle.reuse_shown.specs.Dates.{IsDateOf}
use Rattle.reuse_shown.specs.JoinedTexts.{AreJoined}
use Rattle.reuse_command.specs.declared.reply.Row.{Row}
use Rattle.reuse_change.specs.declared.command_name.CommandName.{CommandName}
use Rattle.reuse_change.specs.declared.command_name.CommandName.TheVariants.{Annotate, ConvertDep5, Download, Revert}
use Rattle.reuse_change.specs.declared.command_name.CommandName.TheVariants.{Amend, AddStyles}

abbrev pub command_word : CommandName → List ℕ
command_word Annotate = codes "annotate"
command_word ConvertDep5 = codes "convert-dep5"
command_word Download = codes "download"
command_word Revert = codes "revert"
command_word Amend = codes "amend"
command_word AddStyles = codes "styles"

abbrev pub state_word : Bool → List ℕ
state_word done = if done then codes "done" else codes "undone"

-- number, date, command, count and state, with a space between each two, and a line end
abbrev pub row_line : Row → Date → List ℕ
row_line row date =
    (decimal row.number ++ 32 ∷ [] ++ date_text date ++ 32 ∷ [])
    ++ (command_word row.command ++ 32 ∷ [] ++ decimal row.count ++ 32 ∷ [] ++ state_word row.done ++ 10 ∷ [])

-- the line of a row, with the date of its moment
abbrev pub IsRowLine : Row → List ℕ → Type 0
IsRowLine row line = (date : Date) × (IsDateOf row.when date × (line ≡ row_line row date))

-- the lines of rows, one after the other
abbrev pub AreRowLines : List Row → List ℕ → Type 0
AreRowLines rows text = AreJoined IsRowLine rows text
