use Rattle.std.proofs.Common.{◌≡◌, arith, sym, ◌∙◌, ap, take}
use Rattle.reuse_notice.specs.Tags.{drop_end}
use Rattle.reuse_notice.specs.Contents.{is_blank_content}
use Rattle.reuse_notice.proofs.BlankLemmas.{drop_end-more, drop_end-stop, drop_end-nil}
use Rattle.reuse_notice.proofs.infos.without_blank_end.Goals as goal
use Rattle.reuse_notice.proofs.infos.without_blank_end.Goals.{then-loop-len-test+else-is_all_filler, else-loop-len-test}

pub loop-len-preserved : goal.loop-len-preserved
loop-len-preserved c = (
  omega arith,
  drop_end-more (is_blank_content c.args.punct.now) c.args.texts.items c.loop-len.len _ (omega arith) (omega arith)
      (ap (is_blank_content c.args.punct.now) (sym c.index.ensures ∙ sym c.as_slice.ensures)
      ∙ sym c.is_all_filler.ensures ∙ c.if-is_all_filler.true) c.loop-len.invariant.1,
)

pub returns : goal.returns
returns c = c.truncate.ensures.items ∙ elim c.loop-len-test.branch [
  | then-loop-len-test+else-is_all_filler w ↦
      drop_end-stop (is_blank_content c.args.punct.now) c.args.texts.items c.loop-len.len _ (omega arith) (omega arith)
      (ap (is_blank_content c.args.punct.now) (sym w.index.ensures ∙ sym w.as_slice.ensures)
      ∙ sym w.is_all_filler.ensures ∙ w.if-is_all_filler.false) c.loop-len.invariant.1
  | else-loop-len-test w ↦
      (let e : c.loop-len.len ≡ 0 = omega arith in
      ap (λ n. take n c.args.texts.items) e ∙ sym (drop_end-nil (is_blank_content c.args.punct.now))
      ∙ ap (λ n. drop_end (is_blank_content c.args.punct.now) (take n c.args.texts.items)) (sym e)
      ∙ c.loop-len.invariant.1)
]
