use Rattle.reuse_journal.proofs.OneOpening.{bad_once, stuck_once, opened_once, not_bad_and_stuck, not_bad_and_opened}
use Rattle.reuse_journal.proofs.OneOpening.{not_stuck_and_opened}
use Rattle.reuse_session.proofs.laws.files_open_in_one_way.Goals as goal

pub returns : goal.returns
returns c = record {
  bad = bad_once;
  moved = stuck_once;
  opened = opened_once;
  bad_or_moved = not_bad_and_stuck;
  bad_or_opened = not_bad_and_opened;
  moved_or_opened = not_stuck_and_opened;
}
