use Rattle.reuse_session.proofs.lemmas.journal.SealLemmas.{reported, exact}
use Rattle.reuse_session.proofs.laws.seals_are_of_whole_files.Goals as goal

pub returns : goal.returns
returns c = record { reported = reported; exact = exact }
