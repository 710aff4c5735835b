use Rattle.std.proofs.Common.{◌++◌}
use Rattle.std.proofs.lemmas.Result.{on_ok_weaker}
use Rattle.reuse_header.specs.MarkViews.{marks_view}
use Rattle.reuse_header.specs.Writing.{separator_of}
use Rattle.reuse_header.proofs.BoundedLemmas.{writes_more, writes_same}
use Rattle.reuse_header.proofs.WritingLemmas.{free-set_off}
use Rattle.reuse_header.proofs.writer.LineWriter.free.Goals as goal

pub returns : goal.returns
returns c =
    let all = free-set_off (separator_of (marks_view c.args.marks))
    (λ text. c.args.marks.mark.now ++ text) c.free-2.ensures c.free.ensures c.is_empty.ensures in
    on_ok_weaker c.lines.result
    (λ last. writes_same _ (writes_more c.in_ok-separator_if.ensures last) all) c.lines.ensures
