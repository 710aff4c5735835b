use Rattle.reuse_amend.proofs.ReadAgainLemmas.{said_again}
use Rattle.reuse_amend.proofs.AmendedAdditionLemmas.{addition_read}
use Rattle.reuse_amend.proofs.amend_laws.written_notices_are_read.Goals as goal

pub returns : goal.returns
returns c = record { written = said_again; amended = addition_read }
