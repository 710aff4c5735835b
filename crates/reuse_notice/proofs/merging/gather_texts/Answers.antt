use Rattle.std.proofs.Common.{◌∙◌, ap, cond, true}
use Rattle.std.proofs.lemmas.Map.Text.{is_eq-slice_cmp}
use Rattle.reuse_notice.specs.MergeSteps.{has_text}
use Rattle.reuse_notice.proofs.MergeLemmas.{among-more}
use Rattle.reuse_notice.proofs.merging.gather_texts.Goals as goal

pub loop-text-preserved : goal.loop-text-preserved
loop-text-preserved c = λ t.
    among-more c.args.texts.now c.loop-text.text-index _ c.as_slice.result.now t
    (has_text c.loop-text.set t) _ c.loop-text-test.true (c.as_slice.ensures ∙ c.text-item.is) (c.loop-text.invariant t)
    (c.in_ok-insert.ensures.updates.0 (record { ref_ptr = (0, 0); now = t })
    ∙ ap (λ b. cond b true (has_text c.loop-text.set t)) (is_eq-slice_cmp c.as_slice.result.now t))
