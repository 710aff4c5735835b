use Rattle.reuse_header.proofs.FileTextLemmas.{file_is_text}
use Rattle.reuse_header.proofs.MadeTextLemmas.{neighbour_is_text}
use Rattle.reuse_header.proofs.laws.annotated_texts_are_texts.Goals as goal

pub returns : goal.returns
returns c =
    let merges = c.lower_laws.ensures.known.merges in
    let laws = c.lower_laws.ensures.laws in
    record {
      files = λ style how additions file made plain utf8 text e.
          file_is_text laws.joined laws.well merges style how additions file made plain utf8 text e;
      neighbours = λ how additions file made plain utf8 e.
          neighbour_is_text laws.joined laws.well merges how additions file made plain utf8 e;
    }
