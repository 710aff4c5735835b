use Rattle.std.proofs.Common.{◌∙◌, ap}
use Rattle.reuse_arguments.proofs.CommandLineLemmas.{texts_else}
use Rattle.reuse_arguments.proofs.LineFaultLemmas.{expected_after, mistake_first, mistake_same, read_on}
use Rattle.reuse_arguments.specs.CommandLine.{texts_read}
use Rattle.reuse_arguments.specs.Found.{found_in}
use Rattle.reuse_arguments.proofs.words.read_texts_folder.Goals as goal

pub returns-in_err-read_texts-in-download : goal.returns-in_err-read_texts-in-download
unfolding texts_read
returns-in_err-read_texts-in-download c =
    expected_after _ _ _ _ c.from_residual.ensures.1
    (mistake_same _ _ _ (ap (λ name. texts_read name (found_in c.args.matches.now)) c.in-download.is)
    (mistake_first _ _ _ c.in_err-read_texts-in-download.ensures))

pub returns-in_ok-read_texts-in-download : goal.returns-in_ok-read_texts-in-download
unfolding texts_read
returns-in_ok-read_texts-in-download c =
    (ap (λ name. texts_read name (found_in c.args.matches.now)) c.in-download.is)
    ∙ read_on _ _ _ c.in_ok-read_texts-in-download.ensures

pub returns-in_default : goal.returns-in_default
returns-in_default c = texts_else _ _ c.in_default.not-download
