use Rattle.reuse_words.proofs.TagLemmas.{tagged_in_style, none_tagged_in_style}
use Rattle.reuse_words.proofs.laws.texts_have_no_tags.Goals as goal

pub returns : goal.returns
returns c = record { content = tagged_in_style; lines = none_tagged_in_style }
