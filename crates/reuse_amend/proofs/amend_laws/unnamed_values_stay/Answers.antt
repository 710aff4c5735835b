use Rattle.reuse_amend.proofs.NamedLemmas.{other_licence-kept, other_contributor-kept, other_notice-kept}
use Rattle.reuse_amend.proofs.amend_laws.unnamed_values_stay.Goals as goal

pub returns : goal.returns
returns c = record {
  licences = λ a value e. other_licence-kept a value e;
  contributors = λ a value e. other_contributor-kept a value e;
  notices = λ a notice e until prefix. other_notice-kept a notice e until prefix;
}
