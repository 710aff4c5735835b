use Rattle.reuse_amend.proofs.InTurnLemmas.{kept_in_turn}
use Rattle.reuse_amend.proofs.amend_laws.licences_replaced_in_turn_keep_their_meaning.Goals as goal

pub returns : goal.returns
returns c = kept_in_turn
