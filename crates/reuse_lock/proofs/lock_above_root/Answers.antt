use Rattle.std.proofs.Common.{ℕ, List, ap, subst}
use Rattle.std.specs.Prelude.{OnOk}
use Rattle.std.specs.Option.{option_map}
use Rattle.std.specs.Path.{path_buf_bytes}
use Rattle.reuse_lock.specs.Locks.{calls_of, IsAbove, IsGranted}
use Rattle.reuse_lock.specs.declared.record.LockMode.TheVariants.{Shared}
use Rattle.reuse_lock.proofs.LockLemmas.{on_ok, reported_above}
use Rattle.reuse_lock.proofs.lock_above_root.Goals as goal

pub returns-in-Some-clause-locked : goal.returns-in-Some-clause-locked
returns-in-Some-clause-locked g c =
    let root = c.args.root.now in
    let reported = option_map path_buf_bytes c.absolute_path.result in
    let after = calls_of c.lock_above.new.held in
    on_ok c.lock_above.result (reported_above root (path_buf_bytes c.in-Some.path) reported
    (calls_of c.args.held.now) c.absolute_path.new.noted.calls after c.absolute_path.ensures
    (ap (option_map path_buf_bytes) c.in-Some.is) c.lock_above.ensures.kept)
    (subst (λ path. OnOk c.lock_above.result ((folder : List ℕ) → IsAbove path folder → IsGranted folder Shared after))
    c.as_str.ensures c.lock_above.ensures.locked)
