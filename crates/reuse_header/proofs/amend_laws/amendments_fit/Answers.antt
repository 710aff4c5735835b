use Rattle.reuse_text.specs.Text.{after_mark}
use Rattle.reuse_header.proofs.FittingLemmas.{amendment_fits, neighbour_amendment_fits}
use Rattle.reuse_header.proofs.amend_laws.amendments_fit.Goals as goal

pub returns : goal.returns
returns c = record {
  files = λ style a file edit e. amendment_fits style a file edit (c.lines_are_one.ensures.joined (after_mark file)) e;
  neighbours = λ a file edit e. neighbour_amendment_fits a file edit c.lines_are_one.ensures.joined e;
}
