use Rattle.reuse_header.proofs.AmendmentLawLemmas.{none_stays, same_stays}
use Rattle.reuse_header.proofs.amend_laws.unamended_files_stay.Goals as goal

pub returns : goal.returns
returns c = record {
  none = λ style a file is. none_stays style a file is;
  same = λ style a file span new is made same. same_stays style a file span new is made same;
}
