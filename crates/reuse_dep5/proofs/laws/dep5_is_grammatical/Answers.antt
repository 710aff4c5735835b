use Rattle.reuse_dep5.proofs.GrammarLemmas.{accepted_exactly}
use Rattle.reuse_dep5.proofs.FaultLemmas.{refused_exactly}
use Rattle.reuse_dep5.proofs.laws.dep5_is_grammatical.Goals as goal

pub returns : goal.returns
returns c = record { accepted = accepted_exactly; refused = refused_exactly }
