use Rattle.std.proofs.Common.{ap, sym, subst, ◌∙◌, List, ℕ, [], ◌+◌, ◌-◌}
use Rattle.std.specs.Prelude.{Ok}
use Rattle.std.proofs.lemmas.List.{take_rest}
use Rattle.reuse_notice.specs.declared.infos.Info.{Info}
use Rattle.reuse_notice.specs.Contents.{is_nil}
use Rattle.reuse_header.specs.Found.{block_view}
use Rattle.reuse_header.specs.Marks.{marks_of}
use Rattle.reuse_header.specs.Splices.{splice_at, answer_of, IsExpected}
use Rattle.reuse_header.specs.Comment.{comment_written}
use Rattle.reuse_words.specs.Removal.{gap_behind}
use Rattle.reuse_words.proofs.RemovalLemmas.{nil_by_count, block_goes, block_stays}
use Rattle.reuse_words.proofs.removal.untag_block.Goals as goal

pub returns-then-is_empty : goal.returns-then-is_empty
returns-then-is_empty c =
    block_goes c.args.style.now c.args.file.now (block_view c.args.block) c.in_ok-info.info.free
    (ap (λ (info : Info). info.free) c.in_ok-info.ensures)
    (ap is_nil (sym c.free.ensures) ∙ nil_by_count c.free.result.now _ c.is_empty.ensures ∙ c.if-is_empty.true)
    c.remove_range.result
    (subst (λ (n : ℕ). IsExpected (Ok (splice_at c.args.file.now c.args.block.start
    ((c.args.block.end + n) - c.args.block.start) [])) c.remove_range.result)
    (c.gap_behind.ensures.gap ∙ ap gap_behind (take_rest c.args.file.now c.args.block.end)) c.remove_range.ensures)

pub returns : goal.returns
returns c =
    block_stays c.args.style.now c.args.file.now (block_view c.args.block) c.in_ok-info.info.free
    (ap (λ (info : Info). info.free) c.in_ok-info.ensures)
    (ap is_nil (sym c.free.ensures) ∙ nil_by_count c.free.result.now _ c.is_empty.ensures ∙ c.if-is_empty.false)
    c.write_comment.result
    (subst (λ (free : List (List ℕ)). IsExpected (answer_of c.args.file.now (comment_written c.args.file.now
    (block_view c.args.block) free (marks_of c.args.style.now c.args.block.form))) c.write_comment.result)
    c.free-2.ensures c.write_comment.ensures)
