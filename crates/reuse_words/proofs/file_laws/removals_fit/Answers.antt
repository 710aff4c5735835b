use Rattle.reuse_text.specs.Text.{after_mark}
use Rattle.reuse_words.proofs.FileLawLemmas.{removal_fits, neighbour_fits}
use Rattle.reuse_words.proofs.file_laws.removals_fit.Goals as goal

pub returns : goal.returns
returns c = record {
  files = λ style file span edit found e.
      removal_fits style file span edit (c.lines_are_one.ensures.joined (after_mark file)) found e;
  neighbours = λ file edit e. neighbour_fits file edit c.lines_are_one.ensures.joined e;
}
