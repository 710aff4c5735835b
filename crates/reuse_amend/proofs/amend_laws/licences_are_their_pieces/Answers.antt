use Rattle.reuse_amend.proofs.UnnamedLemmas.{pieces-join}
use Rattle.reuse_amend.proofs.amend_laws.licences_are_their_pieces.Goals as goal

pub returns : goal.returns
returns c = λ text. pieces-join text
