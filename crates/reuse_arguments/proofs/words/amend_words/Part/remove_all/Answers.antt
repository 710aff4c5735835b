use Rattle.std.proofs.Common.{◌∙◌}
use Rattle.reuse_arguments.proofs.AmendListLemmas.{removed_all, removed_on, removed_stops}
use Rattle.reuse_arguments.proofs.LineFaultLemmas.{expected_after, mistake_same}
use Rattle.reuse_arguments.proofs.words.amend_words.Part.remove_all.Goals as goal

pub returns-in_err-remove : goal.returns-in_err-remove
returns-in_err-remove c =
    expected_after _ _ _ c.in_err-remove.field-0.0 c.from_residual.ensures.1
    (mistake_same _ _ _ c.loop-texts.invariant
    (removed_stops _ c.loop-texts.texts.now _ _ _ c.in-len1-up.len_at_least c.in_err-remove.ensures))

pub loop-texts-preserved : goal.loop-texts-preserved
loop-texts-preserved c = c.loop-texts.invariant
    ∙ removed_on _ c.loop-texts.texts.now _ _ _ c.in-len1-up.len_at_least c.in_ok-remove.ensures

pub returns : goal.returns
returns c = c.loop-texts.invariant ∙ removed_all _ c.loop-texts.texts.now _ c.in_default.len_below
