use Rattle.reuse_amend.proofs.UnnamedLemmas.{are_amended, other_licence-stays, other_contributor-stays}
use Rattle.reuse_amend.proofs.InPlaceLemmas.{other_notice-stays}
use Rattle.reuse_amend.proofs.amend_laws.unnamed_information_stays.Goals as goal

pub returns : goal.returns
returns c = record {
  licences = λ a info new value e other h. other_licence-stays a info new value e other h;
  contributors = λ a info new text e other h. other_contributor-stays a info new text e other h;
  notices = λ a info new text e other h. other_notice-stays a info new text e other h;
  free = λ a info new e. (are_amended a info new e).new_free;
}
