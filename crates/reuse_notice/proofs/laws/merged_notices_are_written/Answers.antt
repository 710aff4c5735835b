use Rattle.reuse_notice.proofs.HolderLemmas.{merged_written}
use Rattle.reuse_notice.proofs.laws.merged_notices_are_written.Goals as goal

pub returns : goal.returns
returns c command notices text h = merged_written command notices text h
