use Rattle.reuse_notice.proofs.text_lists.are_same.Goals as goal

pub returns : goal.returns
returns c = c.eq.ensures
