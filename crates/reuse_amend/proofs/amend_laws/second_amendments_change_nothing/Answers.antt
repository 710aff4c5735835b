use Rattle.reuse_amend.proofs.SettledLemmas.{licence_again}
use Rattle.reuse_amend.proofs.SecondLemmas.{amended_again}
use Rattle.reuse_amend.proofs.amend_laws.second_amendments_change_nothing.Goals as goal

pub returns : goal.returns
returns c = record { licences = licence_again; information = amended_again }
