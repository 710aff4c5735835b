use Rattle.std.proofs.Common.{Err, sym, subst}
use Rattle.reuse_journal.specs.Journal.{State, Replays, ahead}
use Rattle.reuse_session.specs.session.Session.{SimulatesState}
use Rattle.reuse_edit.proofs.Results.{none_unless_some}
use Rattle.reuse_session.proofs.lemmas.session.Replaying.{none_next}
use Rattle.reuse_session.proofs.session.Session.replay.Goals as goal

pub returns-in_default-clause-exact : goal.returns-in_default-clause-exact
returns-in_default-clause-exact g c honest held stands reported =
    let files = g.S.Store.files in
    let session = c.args.self.now in
    let direction = c.args.direction in
    subst (λ r. (left : State) × SimulatesState files session left
    × Replays direction (ahead direction held.journal) held (Err r) left) (sym c.end_of.ensures)
    (none_next direction files session held stands
    (c.next.ensures.none (none_unless_some c.next.result c.in_default.not-Some)))
