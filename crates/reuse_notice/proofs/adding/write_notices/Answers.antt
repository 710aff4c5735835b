use Rattle.std.proofs.Common.{sym, subst}
use Rattle.std.specs.Prelude.{All, IsUtf8}
use Rattle.std.proofs.lemmas.List.Elements.{All-push}
use Rattle.reuse_notice.specs.Adding.{without_spaces, notice_written}
use Rattle.reuse_notice.proofs.AddingLemmas.{made_more}
use Rattle.reuse_notice.proofs.NoticeSoundLemmas.{written_utf8}
use Rattle.reuse_notice.proofs.adding.write_notices.Goals as goal

pub loop-holder-preserved : goal.loop-holder-preserved
loop-holder-preserved c = record {
  written = made_more (λ t. without_spaces t.now) (notice_written c.args.prefix c.args.years) c.args.holders.now
      c.loop-holder.holder-index _ c.trim_spaces.result.now c.in_ok-write_notice.field-0
      c.loop-holder.notices.items c.push.new.self.items c.loop-holder-test.true c.trim_spaces.ensures.value
      c.in_ok-write_notice.ensures c.loop-holder.invariant.written c.in_ok-push.ensures.items;
  utf8 = λ short. subst (All IsUtf8) (sym c.in_ok-push.ensures.items)
      (All-push IsUtf8 c.loop-holder.notices.items c.in_ok-write_notice.field-0 (c.loop-holder.invariant.utf8 short)
      (subst IsUtf8 (sym c.in_ok-write_notice.ensures)
      (written_utf8 c.args.prefix c.args.years c.trim_spaces.result.now short c.trim_spaces.ensures.utf8)));
}

pub returns-clause-utf8 : goal.returns-clause-utf8
returns-clause-utf8 c = λ short. subst (All IsUtf8) (sym c.new.ensures) (c.loop-holder.invariant.utf8 short)
