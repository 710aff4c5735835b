use Rattle.std.proofs.Common.{◌∙◌}
use Rattle.reuse_arguments.proofs.LineFaultLemmas.{expected_after, mistake_behind, mistake_first, read_on}
use Rattle.reuse_arguments.specs.StyleWords.{annotation_read}
use Rattle.reuse_arguments.proofs.words.style_words.read_annotation.Goals as goal

pub returns-in_err-places : goal.returns-in_err-places
unfolding annotation_read
returns-in_err-places c = expected_after _ _ _ _ c.from_residual.ensures.1 (mistake_first _ _ _ c.in_err-places.ensures)

pub returns-in_err-additions : goal.returns-in_err-additions
unfolding annotation_read
returns-in_err-additions c =
    expected_after _ _ _ _ c.from_residual-in_err-additions.ensures.1
    (mistake_behind _ _ _ _ c.in_ok-places.ensures (mistake_first _ _ _ c.in_err-additions.ensures))

pub returns-in_err-excluded : goal.returns-in_err-excluded
unfolding annotation_read
returns-in_err-excluded c =
    expected_after _ _ _ _ c.from_residual-in_err-excluded.ensures.1
    (mistake_behind _ _ _ _ c.in_ok-places.ensures (mistake_behind _ _ _ _ c.in_ok-additions.ensures
    (mistake_first _ _ _ c.in_err-excluded.ensures)))

pub returns : goal.returns
unfolding annotation_read
returns c = read_on _ _ _ c.in_ok-places.ensures ∙ read_on _ _ _ c.in_ok-additions.ensures
    ∙ read_on _ _ _ c.in_ok-excluded.ensures ∙ cc
