use Rattle.reuse_amend.proofs.SecondLemmas.{text_again}
use Rattle.reuse_amend.proofs.SettlingLemmas.{all_settle, old_settle}
use Rattle.reuse_amend.proofs.amend_laws.texts_settle_if_the_old_ones_do.Goals as goal

pub returns : goal.returns
returns c = record {
  exactly = λ replacements. (old_settle replacements, all_settle replacements);
  enough = λ replacements text back. text_again replacements text back;
}
