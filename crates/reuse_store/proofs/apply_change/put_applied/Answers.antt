use Rattle.std.proofs.Common.{◌≡◌, ◌⊎◌, Err, OnErr, ap, sym, subst}
use Rattle.std.proofs.lemmas.Result.{err_from_is_err_and}
use Rattle.reuse_change.specs.Change.{path_of}
use Rattle.reuse_change.specs.Tree.{Sets}
use Rattle.reuse_store.specs.Apply.{held_in}
use Rattle.reuse_store.proofs.Batches.{of_clash, of_device}
use Rattle.reuse_store.proofs.apply_change.put_applied.Goals as goal

pub returns-in_err-write_at-clause-err : goal.returns-in_err-write_at-clause-err
returns-in_err-write_at-clause-err g c honest =
    let old = g.S.Store.files c.args.store.now in
    let new = g.S.Store.files c.write_at.new.store in
    let p = err_from_is_err_and c.from_residual.result c.from_residual.ensures.1 in
    subst (λ r. OnErr r ((new ≡ old) ⊎ Sets (path_of c.args.change.now) (held_in c.args.after) old new)) (sym p.1)
    (c.in_err-write_at.ensures.err honest)

pub returns-in_err-write_at-clause-clash : goal.returns-in_err-write_at-clause-clash
returns-in_err-write_at-clause-clash g c honest e =
    let p = err_from_is_err_and c.from_residual.result c.from_residual.ensures.1 in
    c.in_err-write_at.ensures.clash honest (ap Err (of_clash c.in_err-write_at.field-0.0 (cc)))

pub returns-in_err-write_at-clause-device : goal.returns-in_err-write_at-clause-device
returns-in_err-write_at-clause-device g c e =
    let p = err_from_is_err_and c.from_residual.result c.from_residual.ensures.1 in
    c.in_err-write_at.ensures.device (ap Err (of_device c.in_err-write_at.field-0.0 (cc)))

pub returns-in_err-write_at-clause-left : goal.returns-in_err-write_at-clause-left
returns-in_err-write_at-clause-left g c = c.in_err-write_at.ensures.left

pub returns-clause-left : goal.returns-clause-left
returns-clause-left g c = c.in_ok-write_at.ensures.left
