use Rattle.reuse_header.proofs.StandsLemmas.{count_exact, enclosed_exact}
use Rattle.reuse_header.proofs.laws.multi_line_blocks_are_enclosed.Goals as goal

pub returns : goal.returns
returns c = record {
  closed = λ closer lines count. count_exact closer lines count;
  enclosed = λ comment lines count. enclosed_exact comment lines count;
}
