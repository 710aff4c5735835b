use Rattle.std.proofs.Common.{◌∙◌, ◌∷◌, [], refl}
use Rattle.std.proofs.lemmas.Slice.{pushed}
use Rattle.reuse_notice.specs.MergeSteps.{class_at}
use Rattle.reuse_notice.proofs.MergeLemmas.{merged-more}
use Rattle.reuse_notice.proofs.merging.merge_notices.Goals as goal

pub loop-text-preserved : goal.loop-text-preserved
loop-text-preserved c =
    merged-more c.args.command.now c.args.notices.now (class_at c.in_ok-classes.classes) c.loop-text.text-index _
    c.as_slice.result.now c.in_ok-merge_one.field-0 _ _ c.loop-text-test.true
    (c.as_slice.ensures ∙ c.text-item.is) c.in_ok-classes.ensures c.in_ok-merge_one.ensures c.loop-text.invariant
    (pushed (c.in_ok-merge_one.field-0 ∷ []) refl c.in_ok-push.was c.push.ensures.items)
