use Rattle.std.proofs.Common.{subst}
use Rattle.reuse_lock.specs.Locks.{calls_of, IsGranted}
use Rattle.reuse_lock.specs.declared.record.LockMode.TheVariants.{Shared}
use Rattle.reuse_lock.proofs.LockLemmas.{locked_at, locked_at_none, on_ok}
use Rattle.reuse_lock.proofs.+lock_at_slashes.Goals as goal

pub returns-in_ok-lock_at_slashes-in-Some-clause-locked : goal.returns-in_ok-lock_at_slashes-in-Some-clause-locked
returns-in_ok-lock_at_slashes-in-Some-clause-locked g t c =
    let before = calls_of c.lock_at_slashes.new.held in
    let after = calls_of c.lock_folder.new.held in
    on_ok c.lock_folder.result (λ granted. locked_at c.args.path.now c.in-Some.front.now before after c.in-Some.ensures
    c.in_ok-lock_at_slashes-in-Some.ensures.locked c.lock_folder.ensures.kept
    (subst (λ f. IsGranted f Shared after) c.folder_of.ensures granted)) c.lock_folder.ensures.granted

pub returns-in_ok-lock_at_slashes-in-Some-clause-kept : goal.returns-in_ok-lock_at_slashes-in-Some-clause-kept
returns-in_ok-lock_at_slashes-in-Some-clause-kept g t c call was =
    c.lock_folder.ensures.kept call (c.lock_at_slashes.ensures.kept call was)

pub returns-in-None-clause-locked : goal.returns-in-None-clause-locked
returns-in-None-clause-locked g t c = locked_at_none c.args.path.now (calls_of c.args.held.now) c.in-None.ensures
