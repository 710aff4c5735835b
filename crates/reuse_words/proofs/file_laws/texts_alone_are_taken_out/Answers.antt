use Rattle.reuse_text.specs.Text.{after_mark}
use Rattle.reuse_words.proofs.FileLawLemmas.{texts_out_bytes, texts_out_fit, texts_out_text}
use Rattle.reuse_words.proofs.NeighbourLawLemmas.{neighbour_out_bytes, neighbour_out_fits}
use Rattle.reuse_words.proofs.file_laws.texts_alone_are_taken_out.Goals as goal

pub returns : goal.returns
returns c = record {
  bytes = λ style texts file span edit found e. texts_out_bytes style texts file span edit
      (c.lines_are_one.ensures.joined (after_mark file)) found e;
  fit = λ style texts file span edit found e. texts_out_fit style texts file span edit
      (c.lines_are_one.ensures.joined (after_mark file)) found e;
  text = λ style texts file span edit found e. texts_out_text style texts file span edit
      (c.lines_are_one.ensures.joined (after_mark file)) found e;
  neighbour_bytes = λ texts file edit e. neighbour_out_bytes file edit c.lines_are_one.ensures.joined texts e;
  neighbours_fit = λ texts file edit e. neighbour_out_fits file edit c.lines_are_one.ensures.joined texts e;
}
