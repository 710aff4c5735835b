use Rattle.std.proofs.Common.{◌≡◌, ◌+◌, take}
use Rattle.reuse_store.specs.Asked.{Leaves, IsLater}
use Rattle.reuse_change.specs.Files.{Files}
use Rattle.reuse_session.specs.session.Forgetting.{Removes, RemovesSome}
use Rattle.reuse_session.proofs.session.forget.remove_each.Given as goal

-- the files of the paths so far are removed
abbrev pub invariant-loop-path : goal.invariant-loop-path
invariant-loop-path g l =
    let store = g.S.Store in
    record {
      removed : store.honest l.store
          → Removes (take l.path-index l.paths) (store.files l.fn.store) (store.files l.store);
      left : Leaves store l.store
          (λ left. (kept : Files) × store.crash_states l.fn.store kept × RemovesSome l.paths kept left);
      written : store.written l.store ≡ store.written l.fn.store;
      mutations : store.mutations l.store ≡ store.mutations l.fn.store + l.path-index;
      later : IsLater store l.fn.store l.store;
    }
