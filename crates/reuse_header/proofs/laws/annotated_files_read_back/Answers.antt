use Rattle.reuse_header.proofs.ReadBackLemmas.{file_read, neighbour_read, neighbour_first_read}
use Rattle.reuse_header.proofs.laws.annotated_files_read_back.Goals as goal

pub returns : goal.returns
returns c =
    let known = c.lower_laws.ensures.known in
    let laws = c.lower_laws.ensures.laws in
    record {
      files = λ style how arguments file made plain e. file_read known laws style how arguments file made plain e;
      neighbours =
          λ how arguments file made replace plain e. neighbour_read known laws how arguments file made replace plain e;
      begun_neighbours =
          λ how arguments file made add plain e. neighbour_first_read known laws how arguments file made add plain e;
    }
