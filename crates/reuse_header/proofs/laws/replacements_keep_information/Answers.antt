use Rattle.reuse_header.proofs.LawLemmas.{replacing_keeps, neighbour_replacing_keeps}
use Rattle.reuse_header.proofs.laws.replacements_keep_information.Goals as goal

pub returns : goal.returns
returns c = record {
  files = λ style how additions file edit span replace e is. replacing_keeps c.sets_are_one.ensures.same
      c.merging_keeps_holders.ensures style how additions file edit span replace e is;
  neighbours = λ how additions file edit replace e. neighbour_replacing_keeps c.sets_are_one.ensures.same
      c.merging_keeps_holders.ensures how additions file edit replace e;
}
