use Rattle.std.proofs.Common.{ℕ, List, ◌++◌}
use Rattle.reuse_header.proofs.BoundedLemmas.{under_way-first}
use Rattle.reuse_header.proofs.writer.LineWriter.lines.Goals as goal

pub loop-rest-preserved : goal.loop-rest-preserved
loop-rest-preserved c =
    under_way-first (λ (text : List ℕ). c.args.lead.now ++ (c.args.tag.now ++ text)) c.loop-rest.rest.now
    c.text-item.result c.in-len1-up.len_at_least c.text-item.is c.loop-rest.invariant
    (rw c.as_slice.ensures at c.in_ok-line.ensures)
