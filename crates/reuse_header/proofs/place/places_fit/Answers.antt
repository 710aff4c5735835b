use Rattle.reuse_header.proofs.SpanLemmas.{body-within, neighbour_end-within}
use Rattle.reuse_header.proofs.place.places_fit.Goals as goal

pub returns : goal.returns
returns c = record {
  body = λ style file. body-within c.lines_are_one.ensures.joined style file;
  mark = λ file. (neighbour_end-within c.lines_are_one.ensures.joined file).0;
  end = λ file. (neighbour_end-within c.lines_are_one.ensures.joined file).1;
}
