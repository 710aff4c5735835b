use Rattle.reuse_plan.proofs.ChangedPaths.{edits_reported}
use Rattle.reuse_session.proofs.laws.edits_record_what_they_take_and_write.Goals as goal

pub returns : goal.returns
returns c = record { reported = edits_reported }
