use Rattle.std.proofs.Common.{◌∙◌, Ok, ap, sym}
use Rattle.reuse_arguments.proofs.CommandLineLemmas.{call_else}
use Rattle.reuse_arguments.proofs.LineFaultLemmas.{expected_after, mistake_first, mistake_same, read_on}
use Rattle.reuse_command.specs.declared.request.Call.TheVariants as calls
use Rattle.reuse_arguments.specs.CommandLine.{call_read}
use Rattle.reuse_arguments.specs.Found.{found_in}
use Rattle.reuse_arguments.proofs.words.read_call.Goals as goal

pub returns-in_err-read_annotate-in-annotate : goal.returns-in_err-read_annotate-in-annotate
unfolding call_read
returns-in_err-read_annotate-in-annotate c =
    expected_after _ _ _ _ c.from_residual.ensures.1 (mistake_same _ _ _
    (ap (λ name. call_read name (found_in c.args.matches.now) c.args.context.now) c.in-annotate.is)
    (mistake_first _ _ _ c.in_err-read_annotate-in-annotate.ensures))

pub returns-in_ok-read_annotate-in-annotate : goal.returns-in_ok-read_annotate-in-annotate
unfolding call_read
returns-in_ok-read_annotate-in-annotate c = (ap
    (λ name. call_read name (found_in c.args.matches.now) c.args.context.now) c.in-annotate.is)
    ∙ read_on _ _ _ c.in_ok-read_annotate-in-annotate.ensures

pub returns-in_err-read_amend-in-amend : goal.returns-in_err-read_amend-in-amend
unfolding call_read
returns-in_err-read_amend-in-amend c =
    expected_after _ _ _ _ c.from_residual-in_err-read_amend-in-amend.ensures.1
    (mistake_same _ _ _ (ap (λ name. call_read name (found_in c.args.matches.now) c.args.context.now) c.in-amend.is)
    (mistake_first _ _ _ c.in_err-read_amend-in-amend.ensures))

pub returns-in_ok-read_amend-in-amend : goal.returns-in_ok-read_amend-in-amend
unfolding call_read
returns-in_ok-read_amend-in-amend c = (ap
    (λ name. call_read name (found_in c.args.matches.now) c.args.context.now) c.in-amend.is)
    ∙ read_on _ _ _ c.in_ok-read_amend-in-amend.ensures

pub returns-in-text : goal.returns-in-text
unfolding call_read
returns-in-text c = ap (λ name. call_read name (found_in c.args.matches.now) c.args.context.now) c.in-text.is

pub returns-in-undo : goal.returns-in-undo
unfolding call_read
returns-in-undo c = ap (λ name. call_read name (found_in c.args.matches.now) c.args.context.now) c.in-undo.is

pub returns-in-redo : goal.returns-in-redo
unfolding call_read
returns-in-redo c = ap (λ name. call_read name (found_in c.args.matches.now) c.args.context.now) c.in-redo.is

pub returns-in_ok-read_download-in-download : goal.returns-in_ok-read_download-in-download
unfolding call_read
returns-in_ok-read_download-in-download c = (ap
    (λ name. call_read name (found_in c.args.matches.now) c.args.context.now) c.in-download.is)
    ∙ ap (λ command. Ok (calls.Run command)) (sym c.in_ok-read_download-in-download.ensures)

pub returns-in_err-number-in-revert : goal.returns-in_err-number-in-revert
unfolding call_read
returns-in_err-number-in-revert c =
    expected_after _ _ _ _ c.from_residual-in_err-number-in-revert.ensures.1
    (mistake_same _ _ _ (ap (λ name. call_read name (found_in c.args.matches.now) c.args.context.now) c.in-revert.is)
    (mistake_first _ _ _ c.in_err-number-in-revert.ensures))

pub returns-in_ok-number-in-revert : goal.returns-in_ok-number-in-revert
unfolding call_read
returns-in_ok-number-in-revert c =
    ap (λ name. call_read name (found_in c.args.matches.now) c.args.context.now) c.in-revert.is
    ∙ read_on _ _ _ c.in_ok-number-in-revert.ensures
    ∙ ap (λ b. Ok (calls.Revert c.in_ok-number-in-revert.number b)) (sym c.flag.ensures)

pub returns-in_ok-unread-in_default : goal.returns-in_ok-unread-in_default
returns-in_ok-unread-in_default c =
    rw c.in_ok-unread-in_default.ensures
    (call_else _ _ _ c.in_default.not-annotate c.in_default.not-amend c.in_default.not-text c.in_default.not-download
    c.in_default.not-undo c.in_default.not-redo c.in_default.not-revert)
