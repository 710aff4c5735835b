use Rattle.std.proofs.Common.{◌∙◌, ap, subst, string_bytes}
use Rattle.reuse_lock.specs.Locks.{calls_of, IsLocked}
use Rattle.reuse_undo.proofs.run.locked.tools_for.Goals as goal

pub returns-clause-opens : goal.returns-clause-opens
returns-clause-opens g c =
    record {
      lock = c.in_ok-lock.lock;
      is_of_root = c.in_ok-lock.ensures.root ∙ c.as_str.ensures.value;
      is_at_root = ap string_bytes c.in_ok-folder.ensures.root ∙ c.in_ok-lock.ensures.root ∙ c.as_str.ensures.value;
      is_locked = subst (λ root. IsLocked root (calls_of c.in_ok-lock.lock.held)) c.as_str.ensures.value
          c.in_ok-lock.ensures.locked;
      is_held = c.in_ok-lock.ensures.open;
      syncs = c.in_ok-folder.ensures.syncs;
      owners = c.in_ok-folder.ensures.owners;
      noted = c.in_ok-folder.ensures.noted;
    }
