use Rattle.reuse_notice.specs.Adding.{additions_of}
use Rattle.reuse_header.proofs.RepeatLemmas.{file_again}
use Rattle.reuse_header.proofs.OpenLemmas.{neighbour_file_again}
use Rattle.reuse_header.proofs.laws.annotating_again_changes_nothing.Goals as goal

pub returns : goal.returns
returns c =
    let known = c.lower_laws.ensures.known in
    let laws = c.lower_laws.ensures.laws in
    record {
      files = λ style how arguments file made replace plain ends e.
          file_again known laws style how arguments file made replace plain ends e;
      neighbours = λ how arguments file made replace plain utf8 e.
          neighbour_file_again known laws how arguments file made replace plain
          (c.annotated_texts_are_texts.ensures.neighbours how (additions_of arguments) file made plain utf8 e).1 e;
    }
