use Rattle.std.proofs.Common.{◌∙◌}
use Rattle.reuse_arguments.proofs.LineFaultLemmas.{expected_after, mistake_behind, mistake_first, read_on}
use Rattle.reuse_arguments.specs.CommandWords.{scope_read}
use Rattle.reuse_arguments.proofs.words.command_words.read_scope.Goals as goal

pub returns-in_err-style : goal.returns-in_err-style
unfolding scope_read
returns-in_err-style c = expected_after _ _ _ _ c.from_residual.ensures.1 (mistake_first _ _ _ c.in_err-style.ensures)

pub returns-in_err-excluded : goal.returns-in_err-excluded
unfolding scope_read
returns-in_err-excluded c =
    expected_after _ _ _ _ c.from_residual-in_err-excluded.ensures.1
    (mistake_behind _ _ _ _ c.in_ok-style.ensures (mistake_first _ _ _ c.in_err-excluded.ensures))

pub returns : goal.returns
unfolding scope_read
returns c = read_on _ _ _ c.in_ok-style.ensures ∙ read_on _ _ _ c.in_ok-excluded.ensures ∙ cc
