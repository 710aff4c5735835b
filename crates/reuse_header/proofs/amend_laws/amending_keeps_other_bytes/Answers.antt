use Rattle.reuse_text.specs.Text.{after_mark}
use Rattle.reuse_header.proofs.AmendmentLawLemmas.{amending_replaces, amending_replaces_neighbour}
use Rattle.reuse_header.proofs.amend_laws.amending_keeps_other_bytes.Goals as goal

pub returns : goal.returns
returns c = record {
  files = λ style a file edit span e is. amending_replaces style a file edit span
      (c.lines_are_one.ensures.joined (after_mark file)) e is;
  neighbours = λ a file edit e. amending_replaces_neighbour a file edit c.lines_are_one.ensures.joined e;
}
