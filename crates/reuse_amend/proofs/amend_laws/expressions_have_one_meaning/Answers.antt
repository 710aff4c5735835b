use Rattle.reuse_notice.proofs.PlaceLemmas.{none_exactly}
use Rattle.reuse_amend.proofs.PhraseLemmas.{some_meaning}
use Rattle.reuse_amend.proofs.MeaningLemmas.{meant_expression, one_meaning}
use Rattle.reuse_amend.proofs.amend_laws.expressions_have_one_meaning.Goals as goal

pub returns : goal.returns
returns c = record {
  some = λ text e. some_meaning text ((none_exactly text).1 e);
  only = meant_expression;
  one = one_meaning;
}
