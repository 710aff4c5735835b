-- What names a step, its row of a log, and when a journal takes no further entry.
use Rattle.std.specs.Prelude.{ℕ, Bool, ◌||◌, nat_le}
use Rattle.reuse_change.specs.declared.layout.TheConstants.{LAST_NUMBER, MOST_LISTED}
use Rattle.reuse_change.specs.declared.command_name.CommandName.{CommandName}
use Rattle.reuse_command.specs.declared.reply.Row.{Row}

-- what names a step: its number, its moment and its command
pub record Label : Type 0 where
  pub number : ℕ
  pub when : ℕ
  pub command : CommandName

-- the journal takes no further entry: so many are done, or so many numbers are used
abbrev pub is_full : ℕ → ℕ → Bool
is_full done used = nat_le MOST_LISTED done || nat_le LAST_NUMBER used

-- a row of the log
abbrev pub row_of : Label → ℕ → Bool → Row
row_of label count done =
    record { number = label.number; when = label.when; command = label.command; count = count; done = done }
