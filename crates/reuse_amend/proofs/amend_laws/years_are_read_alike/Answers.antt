use Rattle.reuse_amend.proofs.NarrowLemmas.{read_alike}
use Rattle.reuse_amend.proofs.amend_laws.years_are_read_alike.Goals as goal

pub returns : goal.returns
returns c = read_alike
