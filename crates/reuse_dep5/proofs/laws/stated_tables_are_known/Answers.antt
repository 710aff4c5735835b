use Rattle.reuse_dep5.proofs.ConvertedLemmas.{stated_exactly}
use Rattle.reuse_dep5.proofs.laws.stated_tables_are_known.Goals as goal

pub returns : goal.returns
returns c = stated_exactly
