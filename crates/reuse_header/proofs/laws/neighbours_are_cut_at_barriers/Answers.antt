use Rattle.reuse_text.specs.Text.{after_mark}
use Rattle.reuse_header.proofs.BarrierLemmas.{cut_at_barrier}
use Rattle.reuse_header.proofs.laws.neighbours_are_cut_at_barriers.Goals as goal

pub returns : goal.returns
returns c = λ file. cut_at_barrier file (c.lines_are_one.ensures.joined (after_mark file))
