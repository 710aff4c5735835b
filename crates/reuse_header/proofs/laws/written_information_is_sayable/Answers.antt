use Rattle.reuse_header.proofs.LinesLemmas.{written_sayable, neighbour_sayable}
use Rattle.reuse_header.proofs.laws.written_information_is_sayable.Goals as goal

pub returns : goal.returns
returns c =
    let known = c.lower_laws.ensures.known in
    let well = c.lower_laws.ensures.laws.well in
    record {
      files = λ style how arguments file kind form marks plain is.
          written_sayable known well style how arguments file kind form marks plain is;
      neighbours = λ how arguments file kind plain. neighbour_sayable known well how arguments file kind plain;
    }
