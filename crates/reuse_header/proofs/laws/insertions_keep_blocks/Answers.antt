use Rattle.reuse_text.specs.Text.{after_mark}
use Rattle.reuse_header.proofs.LawLemmas.{insertion_keeps, neighbour_insertion_keeps}
use Rattle.reuse_header.proofs.laws.insertions_keep_blocks.Goals as goal

pub returns : goal.returns
returns c = record {
  files = λ style how additions file edit span add e is. insertion_keeps style how additions file edit span
      (c.lines_are_one.ensures.joined (after_mark file)) add e is;
  neighbours = λ how additions file edit add e. neighbour_insertion_keeps how additions file edit add e;
}
