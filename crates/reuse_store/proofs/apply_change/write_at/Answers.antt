use Rattle.std.proofs.Common.{List, ℕ, subst}
use Rattle.reuse_store.specs.Apply.{held_in}
use Rattle.reuse_store.specs.WriteLeaves.{WriteLeaves}
use Rattle.reuse_store.proofs.WriteLeaves.{write_leaves}
use Rattle.reuse_store.proofs.apply_change.write_at.Goals as goal

pub returns : goal.returns
returns g c =
    subst (λ (path : List ℕ). WriteLeaves g.S.Store path (held_in c.args.file) c.args.store.now c.write.new.self
    c.write.result) c.path-path.ensures
    (write_leaves g.S.Store c.path-path.result.now c.args.store.now c.write.new.self c.write.result c.args.file
    c.write.ensures)
