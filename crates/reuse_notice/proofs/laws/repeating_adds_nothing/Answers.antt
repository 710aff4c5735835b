use Rattle.reuse_notice.proofs.RepeatLemmas.{union_again, merge_again}
use Rattle.reuse_notice.proofs.laws.repeating_adds_nothing.Goals as goal

pub returns : goal.returns
returns c = record {
  united = λ info additions. union_again info additions;
  merged = λ info additions. merge_again info additions;
}
