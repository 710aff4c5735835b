use Rattle.reuse_undo.proofs.lemmas.run.AfterStopLemmas.{stopped_in_turn}
use Rattle.reuse_undo.proofs.laws.lines_run_as_the_model.Goals as goal

pub returns : goal.returns
returns g c = record { stops = stopped_in_turn g.S.Store g.O.Sink.contents g.O.Sink.failed }
