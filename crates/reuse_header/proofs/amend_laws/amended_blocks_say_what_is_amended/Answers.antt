use Rattle.reuse_header.proofs.AmendmentLawLemmas.{amends_block, amends_neighbour}
use Rattle.reuse_header.proofs.amend_laws.amended_blocks_say_what_is_amended.Goals as goal

pub returns : goal.returns
returns c = record {
  files = λ style a file edit span e is. amends_block style a file edit span e is;
  neighbours = λ a file edit e. amends_neighbour a file edit e;
}
