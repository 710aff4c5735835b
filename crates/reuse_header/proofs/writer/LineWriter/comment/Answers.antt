use Rattle.std.proofs.Common.{refl}
use Rattle.std.proofs.lemmas.Result.{on_ok_weaker}
use Rattle.reuse_header.proofs.BoundedLemmas.{writes_more, writes_same}
use Rattle.reuse_header.proofs.writer.LineWriter.comment.Goals as goal

pub returns : goal.returns
returns c =
    on_ok_weaker c.optional_line-2.result
    (λ last. writes_same _ (writes_more (writes_more c.in_ok-optional_line.ensures c.in_ok-lines.ensures) last) refl)
    c.optional_line-2.ensures
