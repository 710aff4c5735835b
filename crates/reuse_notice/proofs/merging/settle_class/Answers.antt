use Rattle.std.proofs.Common.{sym, ap, ◌∙◌, cond, Some, None}
use Rattle.reuse_notice.specs.Tags.{notice_of}
use Rattle.reuse_notice.specs.Merging.{says}
use Rattle.reuse_notice.proofs.MergeLemmas.{settled-from}
use Rattle.reuse_notice.proofs.merging.settle_class.Goals as goal

pub returns-then-reads_as : goal.returns-then-reads_as
returns-then-reads_as c =
    sym (ap (λ b. cond b (Some c.in_ok-text.text) None) c.if-reads_as.true)
    ∙ settled-from c.args.class c.unwrap_or-prefix.result c.args.holder.now c.in_ok-text.text c.reads_as.result
    c.if-not-class.false c.unwrap_or-prefix.ensures c.in_ok-text.ensures
    (c.reads_as.ensures
    ∙ ap (λ t. says c.unwrap_or-prefix.result c.args.class.years c.args.holder.now (notice_of t)) c.as_slice.ensures)

pub returns-else-reads_as : goal.returns-else-reads_as
returns-else-reads_as c =
    sym (ap (λ b. cond b (Some c.in_ok-text.text) None) c.if-reads_as.false)
    ∙ settled-from c.args.class c.unwrap_or-prefix.result c.args.holder.now c.in_ok-text.text c.reads_as.result
    c.if-not-class.false c.unwrap_or-prefix.ensures c.in_ok-text.ensures
    (c.reads_as.ensures
    ∙ ap (λ t. says c.unwrap_or-prefix.result c.args.class.years c.args.holder.now (notice_of t)) c.as_slice.ensures)
