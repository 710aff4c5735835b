use Rattle.reuse_text.specs.Text.{after_mark}
use Rattle.reuse_words.proofs.FileLawLemmas.{header_gone, header_left, neighbour_bytes, neighbour_says}
use Rattle.reuse_words.proofs.file_laws.removals_keep_other_bytes.Goals as goal

pub returns : goal.returns
returns c = record {
  gone = λ style file span edit found e.
      header_gone style file span edit (c.lines_are_one.ensures.joined (after_mark file)) found e;
  left = λ style file span edit found e.
      header_left style file span edit (c.lines_are_one.ensures.joined (after_mark file)) found e;
  neighbour_bytes = λ file edit e. neighbour_bytes file edit c.lines_are_one.ensures.joined e;
  neighbour_text = neighbour_says;
}
