use Rattle.reuse_text.specs.Text.{after_mark}
use Rattle.reuse_words.proofs.AddedLawLemmas.{texts_fit}
use Rattle.reuse_words.proofs.AddedNeighbourLemmas.{beside_fits}
use Rattle.reuse_words.proofs.file_laws.text_annotations_fit.Goals as goal

pub returns : goal.returns
returns c = record {
  files = λ style how additions texts file edit e.
      texts_fit style how additions texts file edit (c.lines_are_one.ensures.joined (after_mark file)) e;
  neighbours = λ how additions texts file edit e.
      beside_fits how additions texts file edit e c.lines_are_one.ensures.joined;
}
