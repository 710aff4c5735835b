use Rattle.reuse_notice.proofs.HolderLemmas.{holder_some, holder_trimmed}
use Rattle.reuse_notice.proofs.laws.holders_are_values.Goals as goal

pub returns : goal.returns
returns c = record {
  some = λ text notice e. holder_some text notice e;
  trimmed = λ text notice e. holder_trimmed text notice e;
}
