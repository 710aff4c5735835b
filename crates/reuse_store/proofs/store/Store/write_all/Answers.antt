use Rattle.std.proofs.Common.{Err, sym, subst, ◌∙◌, ap}
use Rattle.std.proofs.lemmas.Result.{err_from_is_err_and}
use Rattle.reuse_store.specs.Asked.{AreWrites}
use Rattle.reuse_store.proofs.WrittenInTurn.{one_more, next_fails}
use Rattle.reuse_store.proofs.store.Store.write_all.Goals as goal

pub returns-in_err-write : goal.returns-in_err-write
returns-in_err-write g c =
    let p = err_from_is_err_and c.from_residual.result c.from_residual.ensures.1 in
    subst (λ r. AreWrites g.Self.Store c.args.writes.now c.args.self.now c.write.new.self r) (sym (p.1 ∙ ap Err p.2))
    (next_fails g.Self.Store c.args.writes.now c.loop-write.write-index c.loop-write-test.true c.write-item.result
    c.write-item.is c.args.self.now c.loop-write.self c.write.new.self c.loop-write.invariant c.in_err-write.field-0.0
    c.in_err-write.ensures)

pub loop-write-preserved : goal.loop-write-preserved
loop-write-preserved g c =
    one_more g.Self.Store c.args.writes.now c.loop-write.write-index c.loop-write-test.true c.write-item.result
    c.write-item.is c.args.self.now c.loop-write.self c.write.new.self c.loop-write.invariant c.in_ok-write.ensures
