use Rattle.reuse_words.proofs.RunLawLemmas.{runs_found, none_found}
use Rattle.reuse_words.proofs.laws.runs_are_first.Goals as goal

pub returns : goal.returns
returns c = record { found = runs_found; none = none_found }
