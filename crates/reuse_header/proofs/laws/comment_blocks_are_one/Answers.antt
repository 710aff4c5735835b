use Rattle.reuse_header.proofs.SplitLemmas.{are_comment_blocks, comment_blocks_are_one}
use Rattle.reuse_header.proofs.laws.comment_blocks_are_one.Goals as goal

pub returns : goal.returns
returns c = record {
  are = λ style contents. are_comment_blocks style contents;
  only = λ style contents begins p line. comment_blocks_are_one style contents begins p line;
}
