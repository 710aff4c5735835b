use Rattle.reuse_tree.proofs.HeadParts.{one_head}
use Rattle.reuse_tree.proofs.HeadLaws.{head_good, head_length}
use Rattle.reuse_tree.proofs.journal.laws.written_heads_are_good.Goals as goal

pub returns : goal.returns
returns c = record { good = head_good; bound = head_length; one = one_head }
