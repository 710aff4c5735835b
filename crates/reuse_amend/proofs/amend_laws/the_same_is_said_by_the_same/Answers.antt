use Rattle.reuse_amend.proofs.UnnamedLemmas.{same_is, is_same}
use Rattle.reuse_amend.proofs.amend_laws.the_same_is_said_by_the_same.Goals as goal

pub returns : goal.returns
returns c = λ info other. (same_is info other, is_same info other)
