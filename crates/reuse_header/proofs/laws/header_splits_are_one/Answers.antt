use Rattle.reuse_header.proofs.SplitLemmas.{split_found, split_only}
use Rattle.reuse_header.proofs.laws.header_splits_are_one.Goals as goal

pub returns : goal.returns
returns c = record {
  found = λ style lines header found. split_found style lines header found;
  only = λ style lines before header s. split_only style lines before header s;
}
