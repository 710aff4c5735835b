use Rattle.reuse_header.proofs.SecondLemmas.{file_again, neighbour_again}
use Rattle.reuse_header.proofs.amend_laws.second_amendments_leave_files.Goals as goal

pub returns : goal.returns
returns c =
    let known = c.lower_laws.ensures.known in
    let laws = c.lower_laws.ensures.laws in
    let second = c.second_amendments_change_nothing.ensures.information in
    record {
      files = λ style a file made back short plain reads e.
          file_again second known laws style a file made back short plain reads e;
      neighbours = λ a file made back short plain reads text e.
          neighbour_again second known laws a file made back short plain reads text e;
    }
