use Rattle.reuse_header.proofs.AmendedTextLemmas.{amended_is_text, neighbour_amended_is_text}
use Rattle.reuse_header.proofs.amend_laws.amended_texts_are_texts.Goals as goal

pub returns : goal.returns
returns c =
    let laws = c.lower_laws.ensures.laws in
    record {
      files = λ style a file made plain utf8 short text e. amended_is_text laws.joined laws.well style a file made
          (record { plain = plain; utf8 = utf8; short = short }) text e;
      neighbours = λ a file made plain utf8 short e. neighbour_amended_is_text laws.joined laws.well a file made
          (record { plain = plain; utf8 = utf8; short = short }) e;
    }
