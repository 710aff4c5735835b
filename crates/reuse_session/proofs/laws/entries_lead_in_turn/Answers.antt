use Rattle.reuse_session.proofs.lemmas.journal.InTurn.{entry_in_turn, entry_back_in_turn}
use Rattle.reuse_session.proofs.laws.entries_lead_in_turn.Goals as goal

pub returns : goal.returns
returns c = record { forth = entry_in_turn; back = entry_back_in_turn }
