use Rattle.std.proofs.Common.{◌∙◌, sym, subst}
use Rattle.std.specs.Prelude.{All, IsUtf8}
use Rattle.std.proofs.lemmas.List.Elements.{All-push}
use Rattle.reuse_notice.specs.Adding.{without_spaces}
use Rattle.reuse_notice.proofs.AddingLemmas.{pushed_more}
use Rattle.reuse_notice.proofs.adding.copy_texts.Goals as goal

pub loop-text-preserved : goal.loop-text-preserved
loop-text-preserved c = record {
  texts = pushed_more (λ t. without_spaces t.now) c.args.texts.now c.loop-text.text-index _ c.in_ok-from_slice.field-0
      c.loop-text.copied.items c.push.new.self.items c.loop-text-test.true
      (c.in_ok-from_slice.ensures ∙ c.trim_spaces.ensures.value) c.loop-text.invariant.texts c.in_ok-push.ensures.items;
  utf8 = subst (All IsUtf8) (sym c.in_ok-push.ensures.items)
      (All-push IsUtf8 c.loop-text.copied.items c.in_ok-from_slice.field-0 c.loop-text.invariant.utf8
      (subst IsUtf8 (sym c.in_ok-from_slice.ensures) c.trim_spaces.ensures.utf8));
}

pub returns-clause-utf8 : goal.returns-clause-utf8
returns-clause-utf8 c = subst (All IsUtf8) (sym c.new.ensures) c.loop-text.invariant.utf8
