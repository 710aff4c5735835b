use Rattle.reuse_dep5.proofs.FaultLemmas.{text_accepted, text_refused, text_answered, text_either, text_one}
use Rattle.reuse_dep5.proofs.laws.texts_have_one_answer.Goals as goal

pub returns : goal.returns
returns c = record {
  accepted = text_accepted;
  refused = text_refused;
  some = text_answered;
  either = text_either;
  one = text_one;
}
