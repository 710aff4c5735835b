use Rattle.std.proofs.Common.{subst, sym}
use Rattle.reuse_lock.specs.Locks.{calls_of, IsLocked}
use Rattle.reuse_lock.proofs.LockLemmas.{all_locked}
use Rattle.reuse_lock.proofs.lock_root.Goals as goal

pub invariant_of-result : goal.invariant_of-result
invariant_of-result g c =
    let after = calls_of c.lock_folder.new.held in
    let locked = all_locked c.args.root.now (calls_of c.lock_above_root.new.held) after
    c.in_ok-lock_above_root.ensures.locked c.lock_folder.ensures.kept c.in_ok-lock_folder.ensures.granted in
    record {
      locked = ∣ subst (λ root. IsLocked root after) (sym c.in_ok-from_str.ensures.ok) locked ∣₁;
      «open» = c.in_ok-lock_folder.ensures.«open» (c.in_ok-lock_above_root.ensures.«open» c.new-held.ensures.«open»);
      explained =
          c.in_ok-lock_folder.ensures.explained (c.in_ok-lock_above_root.ensures.explained c.new-held.ensures.explained);
    }

pub returns-clause-locked : goal.returns-clause-locked
returns-clause-locked g c =
    all_locked c.args.root.now (calls_of c.lock_above_root.new.held) (calls_of c.lock_folder.new.held)
    c.in_ok-lock_above_root.ensures.locked c.lock_folder.ensures.kept c.in_ok-lock_folder.ensures.granted
