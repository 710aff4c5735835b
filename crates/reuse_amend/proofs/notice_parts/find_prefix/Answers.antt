use Rattle.std.proofs.Common.{sym, ◌∙◌}
use Rattle.reuse_notice.specs.Prefixes.{longest_first}
use Rattle.reuse_notice.proofs.FindLemmas.{find-more, find-stop, find-end}
use Rattle.reuse_amend.specs.NoticeParts.{is_begun_by}
use Rattle.reuse_amend.proofs.notice_parts.find_prefix.Goals as goal

pub loop-prefix-preserved : goal.loop-prefix-preserved
loop-prefix-preserved c =
    find-more (is_begun_by c.args.text.now) longest_first c.loop-prefix.prefix-index _ _ c.loop-prefix-test.true
    (sym c.is_begun_by.ensures.begun ∙ c.if-is_begun_by.false) c.loop-prefix.invariant

pub returns-then-is_begun_by-clause-found : goal.returns-then-is_begun_by-clause-found
returns-then-is_begun_by-clause-found c =
    find-stop (is_begun_by c.args.text.now) longest_first c.loop-prefix.prefix-index _ _ c.loop-prefix-test.true
    (sym c.is_begun_by.ensures.begun ∙ c.if-is_begun_by.true) c.loop-prefix.invariant

pub returns-clause-found : goal.returns-clause-found
returns-clause-found c = find-end (is_begun_by c.args.text.now) longest_first c.loop-prefix.prefix-index _
    c.loop-prefix-test.false c.loop-prefix.invariant
