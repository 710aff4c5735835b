use Rattle.std.proofs.Common.{length}
use Rattle.std.proofs.lemmas.List.{take_rest}
use Rattle.reuse_header.specs.Open.{open_left}
use Rattle.reuse_style.specs.MarkViews.{block_view}
use Rattle.reuse_header.proofs.ClosingLemmas.{no_count_if}
use Rattle.reuse_header.proofs.blocks.multi_count.Goals as goal

pub returns-clause-passed : goal.returns-clause-passed
returns-clause-passed c =
    let behind = take_rest c.args.first.now (length c.args.comment.opener.now) in
    no_count_if (block_view c.args.comment) c.args.first.now (open_left c.args.lines)
    c.count_to_closer.result.count c.count_to_closer.result.passed
    (rw behind at c.count_to_closer.ensures.count) (rw behind at c.count_to_closer.ensures.passed)
