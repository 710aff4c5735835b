use Rattle.reuse_undo.proofs.lemmas.run.LossesInTurn.{lost_in_turn}
use Rattle.reuse_undo.proofs.laws.lines_run_on_after_losses.Goals as goal

pub returns : goal.returns
returns g c = lost_in_turn g.S.Store g.O.Sink.contents g.O.Sink.failed
