use Rattle.reuse_tags.proofs.LawLemmas.{line_change}
use Rattle.reuse_tags.proofs.laws.values_alone_are_amended.Goals as goal

pub returns : goal.returns
returns c a line kept e = line_change a line kept e
