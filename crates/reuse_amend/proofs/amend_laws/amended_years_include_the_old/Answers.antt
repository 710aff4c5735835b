use Rattle.reuse_amend.proofs.UntilLemmas.{amended_includes}
use Rattle.reuse_amend.proofs.amend_laws.amended_years_include_the_old.Goals as goal

pub returns : goal.returns
returns c = amended_includes
