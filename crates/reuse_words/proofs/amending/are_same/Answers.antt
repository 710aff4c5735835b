use Rattle.reuse_words.proofs.amending.are_same.Goals as goal

pub returns : goal.returns
returns c = c.eq.ensures
