use Rattle.reuse_tags.proofs.LawLemmas.{text_stays}
use Rattle.reuse_tags.proofs.laws.unnamed_texts_stay.Goals as goal

pub returns : goal.returns
returns c a text e until prefix = text_stays a until prefix text e
