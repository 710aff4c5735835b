use Rattle.reuse_amend.proofs.MeaningLemmas.{meaning_kept}
use Rattle.reuse_amend.proofs.amend_laws.replaced_licences_keep_their_meaning.Goals as goal

pub returns : goal.returns
returns c = meaning_kept
