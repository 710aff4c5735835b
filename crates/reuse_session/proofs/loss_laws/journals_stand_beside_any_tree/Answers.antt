use Rattle.reuse_session.proofs.lemmas.session.PathLosses.{committed_beside, pending_beside}
use Rattle.reuse_session.proofs.loss_laws.journals_stand_beside_any_tree.Goals as goal

pub returns : goal.returns
returns c = record { committed = committed_beside; pending = pending_beside }
