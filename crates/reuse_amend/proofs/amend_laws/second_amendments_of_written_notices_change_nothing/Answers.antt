use Rattle.reuse_amend.proofs.SecondNoticeLemmas.{additions_again, removals_again}
use Rattle.reuse_amend.proofs.amend_laws.second_amendments_of_written_notices_change_nothing.Goals as goal

pub returns : goal.returns
returns c = record { additions = additions_again; removals = removals_again }
