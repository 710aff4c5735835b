-- The text of a row, and what stands behind it.
use Rattle.std.proofs.Common.{ℕ, List, ◌++◌, Option, refl}
use Rattle.std.proofs.KnownBytes.{Appends-trans}
use Rattle.std.specs.Io.KnownBytes.{Appends}
use Rattle.reuse_command.specs.declared.reply.Shown.{Shown}
use Rattle.reuse_shown.specs.declared.shown_name.NameDisplay.{NameDisplay}
use Rattle.reuse_shown.specs.JoinedTexts.{AppendsSome}
use Rattle.reuse_print.specs.Lines.{change_lines, IsShownText}
use Rattle.reuse_print.specs.RowLines.{IsRowLine}

-- the line of a row, and those of changes behind it
pub AppendsSome-shown : (names : NameDisplay) (shown : Shown) (old mid new : Option (List ℕ))
    → AppendsSome old mid (IsRowLine shown.row) → Appends mid new (change_lines names shown.changes)
    → AppendsSome old new (IsShownText names shown)
AppendsSome-shown names shown old mid new row rest = (
  row.0 ++ change_lines names shown.changes,
  ((row.0, row.1.0, refl), Appends-trans old mid new row.0 (change_lines names shown.changes) row.1.1 rest),
)
