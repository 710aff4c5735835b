use Rattle.reuse_notice.proofs.LeadingLemmas.{merged_one, others_stay}
use Rattle.reuse_notice.proofs.laws.merged_notices_are_one.Goals as goal

pub returns : goal.returns
returns c = record { notices = merged_one; others = others_stay }
