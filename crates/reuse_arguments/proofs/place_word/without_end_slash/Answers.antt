use lib.Utf8.{encode}
use Rattle.reuse_arguments.proofs.PartLemmas.{without_end_slash-none}
use Rattle.reuse_arguments.proofs.place_word.without_end_slash.Goals as goal

pub returns-in-None : goal.returns-in-None
unfolding encode
returns-in-None c = without_end_slash-none _ c.in-None.ensures.cases
