use Rattle.reuse_notice.proofs.KeepingLemmas.{kept-notice}
use Rattle.reuse_notice.proofs.laws.merging_keeps_holders.Goals as goal

pub returns : goal.returns
returns c = kept-notice
