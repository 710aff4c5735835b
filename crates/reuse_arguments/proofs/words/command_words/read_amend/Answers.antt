use Rattle.std.proofs.Common.{◌∙◌}
use Rattle.reuse_arguments.proofs.LineFaultLemmas.{expected_after, mistake_behind, mistake_first, read_on}
use Rattle.reuse_arguments.specs.CommandWords.{amend_read}
use Rattle.reuse_arguments.proofs.words.command_words.read_amend.Goals as goal

pub returns-in_err-places : goal.returns-in_err-places
unfolding amend_read
returns-in_err-places c = expected_after _ _ _ _ c.from_residual.ensures.1 (mistake_first _ _ _ c.in_err-places.ensures)

pub returns-in_err-amendments : goal.returns-in_err-amendments
unfolding amend_read
returns-in_err-amendments c =
    expected_after _ _ _ _ c.from_residual-in_err-amendments.ensures.1
    (mistake_behind _ _ _ _ c.in_ok-places.ensures (mistake_first _ _ _ c.in_err-amendments.ensures))

pub returns-in_err-scope : goal.returns-in_err-scope
unfolding amend_read
returns-in_err-scope c =
    expected_after _ _ _ _ c.from_residual-in_err-scope.ensures.1
    (mistake_behind _ _ _ _ c.in_ok-places.ensures (mistake_behind _ _ _ _ c.in_ok-amendments.ensures
    (mistake_first _ _ _ c.in_err-scope.ensures)))

pub returns : goal.returns
unfolding amend_read
returns c = read_on _ _ _ c.in_ok-places.ensures ∙ read_on _ _ _ c.in_ok-amendments.ensures
    ∙ read_on _ _ _ c.in_ok-scope.ensures ∙ cc
