use Rattle.reuse_arguments.specs.declared.line.LineFault.TheVariants as faults
use Rattle.std.proofs.Common.{◌∙◌}
use Rattle.reuse_arguments.proofs.LineFaultLemmas.{expected_after, mistake_behind, mistake_first, mistake_same, read_on}
use Rattle.reuse_arguments.proofs.CommandWordLemmas.{additions_now, additions_refused, arguments_same, prefix_same}
use Rattle.reuse_arguments.specs.CommandWords.{additions_read}
use Rattle.reuse_arguments.specs.Found.{found_in}
use Rattle.reuse_arguments.proofs.words.command_words.additions_in.Goals as goal

pub returns-in_err-prefix : goal.returns-in_err-prefix
unfolding additions_read
returns-in_err-prefix c =
    expected_after _ _ _ _ c.from_residual.ensures.1 (mistake_same _ _ _ (prefix_same _ _ _ c.value.ensures)
    (mistake_first _ _ _ c.in_err-prefix.ensures))

pub returns-in_err-new : goal.returns-in_err-new
unfolding additions_read
returns-in_err-new c =
    let fault = faults.BadAdditions c.in_err-new.field-0.0 in
    expected_after _ _ _ fault c.from_residual-in_err-new.ensures.1
    (mistake_same _ _ fault (prefix_same _ _ _ c.value.ensures)
    (mistake_behind _ _ _ fault c.in_ok-prefix.ensures
    (additions_refused _ _ c.in_err-new.field-0.0 (arguments_same
    (found_in c.args.matches.now) _ _ _ _ _ _ _ c.values.ensures c.values-2.ensures c.values-3.ensures
    c.values-4.ensures c.flag.ensures)
    c.in_err-new.ensures.refused)))

pub returns : goal.returns
unfolding additions_read
returns c =
    let added = c.in_ok-new.ensures.added in
    prefix_same _ _ _ c.value.ensures ∙ read_on _ _ _ c.in_ok-prefix.ensures
    ∙ additions_now _ _ _ (arguments_same
    (found_in c.args.matches.now) _ _ _ _ _ _ _ c.values.ensures c.values-2.ensures c.values-3.ensures
    c.values-4.ensures c.flag.ensures) added.0 added.1
