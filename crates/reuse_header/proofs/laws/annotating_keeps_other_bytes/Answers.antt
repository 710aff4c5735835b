use Rattle.reuse_text.specs.Text.{after_mark}
use Rattle.reuse_header.proofs.KeptLemmas.{replacing_keeps_others, inserting_keeps_others}
use Rattle.reuse_header.proofs.KeptLemmas.{neighbour_replacing_keeps_others, neighbour_inserting_keeps_others}
use Rattle.reuse_header.proofs.laws.annotating_keeps_other_bytes.Goals as goal

pub returns : goal.returns
returns c = record {
  replaced = λ style how additions file edit span replace e is. replacing_keeps_others style how additions file edit
      span (c.lines_are_one.ensures.joined (after_mark file)) replace e is;
  inserted = λ style how additions file edit either e. inserting_keeps_others style how additions file edit either e;
  neighbour_replaced = λ how additions file edit replace e.
      neighbour_replacing_keeps_others how additions file edit c.lines_are_one.ensures.joined replace e;
  neighbour_inserted = λ how additions file edit add e. neighbour_inserting_keeps_others how additions file edit add e;
}
