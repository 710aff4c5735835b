use Rattle.reuse_header.proofs.StandsLemmas.{place_exact, nowhere_exact}
use Rattle.reuse_header.proofs.laws.texts_are_found_first.Goals as goal

pub returns : goal.returns
returns c = record {
  found = λ text bytes place. place_exact text bytes place;
  none = λ text bytes. nowhere_exact text bytes;
}
