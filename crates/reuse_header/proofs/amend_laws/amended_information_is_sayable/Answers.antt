use Rattle.reuse_header.proofs.AmendedLemmas.{amended_reads, amended_neighbour_reads}
use Rattle.reuse_header.proofs.amend_laws.amended_information_is_sayable.Goals as goal

pub returns : goal.returns
returns c =
    let known = c.lower_laws.ensures.known in
    let well = c.lower_laws.ensures.laws.well in
    record {
      files = λ style a file span new kind form marks plain found e is.
          amended_reads known well style a file span new kind form marks plain found e is;
      neighbours = λ a file new kind plain e. amended_neighbour_reads known well a file new kind plain e;
    }
