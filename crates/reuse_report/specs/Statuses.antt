-- What the program exits with.
use Rattle.std.specs.Prelude.{ℕ, zero, suc, max, Result, Ok, Err, true, false}
use Rattle.reuse_notice.specs.declared.adding.NoticeRefusal.TheVariants as notices
use Rattle.reuse_words.specs.declared.text.TextRefusal.TheVariants as texts
use Rattle.reuse_report.specs.declared.access_refusal.AccessRefusal.{AccessRefusal}
use Rattle.reuse_print.specs.declared.fault.Fault.{Fault}
use Rattle.reuse_arguments.specs.declared.line.ChangeStatus.{ChangeStatus}
use Rattle.reuse_arguments.specs.declared.line.ChangeStatus.TheVariants.{Zero, One}
use Rattle.reuse_arguments.specs.declared.line.LineFault.{LineFault}
use Rattle.reuse_report.specs.declared.status.Ending.{Ending}
use Rattle.reuse_report.specs.declared.status.Ending.TheVariants.{BadClock, NoLine, Denied, Called}
use Rattle.reuse_arguments.specs.declared.line.LineFault.TheVariants.{Usage, Help, BadPath, BadAdditions}
use Rattle.reuse_arguments.specs.declared.line.LineFault.TheVariants.{NothingToAmend, BadGlob, BadText, Unreadable}
use Rattle.reuse_arguments.specs.declared.line.LineFault.TheVariants.{NoTree, Memory}

-- after a call, by how many paths changed, or would change in a dry run: 1 where it was refused or failed, and 1 where
-- a path changed and that is asked for
abbrev pub call_status_of : ChangeStatus → Result ℕ Fault → ℕ
call_status_of on_change (Err fault) = 1
call_status_of on_change (Ok zero) = 0
call_status_of Zero (Ok (suc others)) = 0
call_status_of One (Ok (suc others)) = 1

-- 0 where help was asked for, 1 where memory ran out, and 2 where the words are wrong, the list of files or a text
-- that they name can't be read or is none, or no tree is around the working folder
abbrev pub line_status_of : LineFault → ℕ
line_status_of (Help text) = 0
line_status_of Memory = 1
line_status_of (BadAdditions (notices.Memory error)) = 1
line_status_of (BadAdditions refusal) = 2
line_status_of NothingToAmend = 2
line_status_of (Usage text) = 2
line_status_of (BadPath text) = 2
line_status_of (BadGlob text) = 2
line_status_of (Unreadable file) = 2
line_status_of (BadText file (texts.Memory error)) = 1
line_status_of (BadText file refusal) = 2
line_status_of NoTree = 2

-- of a run: 1 where the clock is out of range, and at least 1 where it couldn't be printed why the words are no line,
-- or the help; and 1 where the program itself refused the call
abbrev pub exit_status_of : Ending → ℕ
exit_status_of BadClock = 1
exit_status_of (NoLine fault true) = line_status_of fault
exit_status_of (NoLine fault false) = max (line_status_of fault) 1
exit_status_of (Denied access_refusal) = 1
exit_status_of (Called outcome on_change) = call_status_of on_change outcome

-- how a call ended, of which this came: it was made, or was to be made, or the program denied it
abbrev pub ending_of : ChangeStatus → Result (Result ℕ Fault) AccessRefusal → Ending
ending_of on_change (Ok outcome) = Called outcome on_change
ending_of on_change (Err access_refusal) = Denied access_refusal
