use Rattle.reuse_amend.proofs.AmendedAdditionLemmas.{addition_stays}
use Rattle.reuse_amend.proofs.amend_laws.additions_stay_additions.Goals as goal

pub returns : goal.returns
returns c = addition_stays
