use Rattle.std.proofs.Common.{Err, Ok, ap, sym, subst, ◌∙◌}
use Rattle.std.proofs.lemmas.Result.{err_from_is_err_and}
use Rattle.reuse_store.specs.Asked.{AreWrites}
use Rattle.reuse_store.proofs.WatchedWrites.{watched, passed_on}
use Rattle.reuse_store.proofs.watched.WatchedStoreStore.write_all.Goals as goal

pub returns-in_err-write_all : goal.returns-in_err-write_all
returns-in_err-write_all g c =
    let p = err_from_is_err_and c.from_residual.result c.from_residual.ensures.1 in
    subst (λ r. AreWrites (watched g.S.Store) c.args.writes.now c.args.self.now
    (record { inner = c.write_all.new.self; watcher = c.args.self.now.watcher }) r) (sym (p.1 ∙ ap Err p.2))
    (passed_on g.S.Store c.args.writes.now c.args.self.now c.write_all.new.self
    (Err c.in_err-write_all.field-0.0) c.in_err-write_all.ensures)

pub returns : goal.returns
returns g c =
    passed_on g.S.Store c.args.writes.now c.args.self.now c.write_all.new.self (Ok tt) c.in_ok-write_all.ensures
