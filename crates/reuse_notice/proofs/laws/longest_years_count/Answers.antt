use Rattle.reuse_notice.proofs.YearsLemmas.{years_fit, longest_fit, none_fit}
use Rattle.reuse_notice.proofs.laws.longest_years_count.Goals as goal

pub returns : goal.returns
returns c = record { fits = years_fit; longest = longest_fit; none = none_fit }
