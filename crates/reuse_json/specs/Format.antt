-- The formats of the journal's texts.
use Rattle.std.specs.Prelude.{ℕ, Bool, true, false}
use Rattle.reuse_change.specs.declared.command_name.CommandName.{CommandName}
use Rattle.reuse_change.specs.declared.command_name.CommandName.TheVariants.{Revert, Amend, AddStyles}

-- the number of the first format, or of the second, in which entries are sealed
abbrev pub format_number : Bool → ℕ
format_number false = 1
format_number true = 2

-- whether the format knows the command: the first knows neither revert nor amend nor styles
abbrev pub knows : Bool → CommandName → Bool
knows true command = true
knows false Revert = false
knows false Amend = false
knows false AddStyles = false
knows false command = true
