use Rattle.std.proofs.Common.{◌∙◌, Ok, ap}
use Rattle.reuse_arguments.proofs.CommandLineLemmas.{asked_same}
use Rattle.reuse_arguments.proofs.LineFaultLemmas.{expected_after, mistake_behind, mistake_first, read_on}
use Rattle.reuse_arguments.specs.CommandLine.{subcommand_read}
use Rattle.reuse_arguments.proofs.words.read_subcommand.Goals as goal

pub returns-in_err-request : goal.returns-in_err-request
unfolding subcommand_read
returns-in_err-request c =
    expected_after _ _ _ _ c.from_residual.ensures.1 (mistake_first _ _ _ c.in_err-request.ensures)

pub returns-in_err-read_texts_folder : goal.returns-in_err-read_texts_folder
unfolding subcommand_read
returns-in_err-read_texts_folder c =
    expected_after _ _ _ _ c.from_residual-in_err-read_texts_folder.ensures.1
    (mistake_behind _ _ _ _ c.in_ok-request.ensures (mistake_first _ _ _ c.in_err-read_texts_folder.ensures))

pub returns : goal.returns
unfolding subcommand_read
returns c =
    read_on _ _ _ c.in_ok-request.ensures ∙ read_on _ _ _ c.in_ok-read_texts_folder.ensures
    ∙ ap (λ asked. Ok asked) (asked_same _ _ _ _ _ _ _ _ c.names_use_of.ensures c.read_format.ensures c.read_change_status.ensures)
