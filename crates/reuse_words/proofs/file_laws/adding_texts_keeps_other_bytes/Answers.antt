use Rattle.reuse_text.specs.Text.{after_mark}
use Rattle.reuse_words.proofs.AddedLawLemmas.{texts_replace, texts_insert}
use Rattle.reuse_words.proofs.AddedNeighbourLemmas.{beside_replaces, beside_inserts}
use Rattle.reuse_words.proofs.file_laws.adding_texts_keeps_other_bytes.Goals as goal

pub returns : goal.returns
returns c = record {
  replaced = λ style how additions texts file edit span replaced e found. texts_replace style how additions texts file
      edit (c.lines_are_one.ensures.joined (after_mark file)) e span replaced found;
  inserted = λ style how additions texts file edit either e. texts_insert style how additions texts file edit
      (c.lines_are_one.ensures.joined (after_mark file)) e either;
  neighbour_replaced = λ how additions texts file edit replaced e.
      beside_replaces how additions texts file edit e c.lines_are_one.ensures.joined replaced;
  neighbour_inserted = λ how additions texts file edit add e. beside_inserts how additions texts file edit e add;
}
