use Rattle.reuse_text.specs.Text.{after_mark}
use Rattle.reuse_header.proofs.FittingLemmas.{annotation_fits, neighbour_fits}
use Rattle.reuse_header.proofs.laws.annotations_fit.Goals as goal

pub returns : goal.returns
returns c = record {
  files = λ style how additions file edit e. annotation_fits style how additions file edit
      (c.lines_are_one.ensures.joined (after_mark file)) e;
  neighbours = λ how additions file edit e. neighbour_fits how additions file edit c.lines_are_one.ensures.joined e;
}
