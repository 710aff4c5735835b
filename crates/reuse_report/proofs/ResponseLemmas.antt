-- The lines of an answer, and what stands behind them.
use Rattle.std.proofs.Common.{ℕ, List, ◌++◌, Option, refl}
use Rattle.std.proofs.KnownBytes.{Appends-trans}
use Rattle.std.specs.Io.KnownBytes.{Appends}
use Rattle.reuse_command.specs.declared.reply.Response.{Response}
use Rattle.reuse_arguments.specs.declared.line.OutputFormat.TheVariants.{Diff}
use Rattle.reuse_shown.specs.declared.shown_name.NameDisplay.{NameDisplay}
use Rattle.reuse_shown.specs.JoinedTexts.{AppendsSome}
use Rattle.reuse_print.specs.Lines.{IsResponseText}
use Rattle.reuse_report.specs.Responses.{IsDiffBehind, IsTextIn, HasBehind}

-- the lines of an answer, and a diff behind them
pub AppendsSome-behind : (names : NameDisplay) (response : Response) (diff : List ℕ) (old mid new : Option (List ℕ))
    → AppendsSome old mid (IsResponseText names response) → Appends mid new diff
    → AppendsSome old new (HasBehind names response diff)
AppendsSome-behind names response diff old mid new lines rest =
    (lines.0 ++ diff, ((lines.0, lines.1.0, refl), Appends-trans old mid new lines.0 diff lines.1.1 rest))

pub AppendsSome-diff : (names : NameDisplay) (response : Response) (diff : List ℕ) (old mid new : Option (List ℕ))
    → IsDiffBehind response diff → AppendsSome old mid (IsResponseText names response) → Appends mid new diff
    → AppendsSome old new (IsTextIn Diff names response)
AppendsSome-diff names response diff old mid new may lines rest =
    (lines.0 ++ diff, ((lines.0, diff, lines.1.0, may, refl), Appends-trans old mid new lines.0 diff lines.1.1 rest))
