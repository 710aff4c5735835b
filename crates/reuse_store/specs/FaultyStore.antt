-- How a store with faults goes on: which calls it passes on, which fail in it, and what these leave of the store
-- inside.
use Rattle.std.specs.Prelude.{◌≡◌, ◌≢◌, ℕ, zero, suc, ◌+◌, Bool, true, false, Option, None, Some, Result, Err}
use Rattle.reuse_store.specs.Calls.{failures_of, written_of, mutations_of}
use Rattle.reuse_store.specs.declared.fault.StoreFault.{StoreFault}
use Rattle.reuse_store.specs.declared.fault.StoreFault.TheVariants.{Device}
use Rattle.reuse_store.specs.declared.store.Store.{Ghosts}
use Rattle.reuse_store.specs.declared.faulty.FaultyStore.{FaultyStore}

-- the members of a store with faults, from those of the store inside: its files, its honesty, and the counts of both
-- together
abbrev pub with_faults : {S : Type 0} {n : ℕ} → Ghosts S → Ghosts (FaultyStore S n)
with_faults inside = record {
  files = λ store. inside.files store.inner;
  crash_states = λ store. inside.crash_states store.inner;
  failures = λ store. inside.failures store.inner + failures_of store.failed.calls;
  written = λ store. inside.written store.inner + written_of store.failed.calls;
  mutations = λ store. inside.mutations store.inner + mutations_of store.failed.calls;
  honest = λ store. inside.honest store.inner;
}

-- how many calls are left until the next one that fails, after a call. After one that failed the next fails too where
-- faults stay, and
-- else none fails any more
abbrev pub left_after : Bool → Option ℕ → Option ℕ
left_after stays None = None
left_after stays (Some (suc left)) = Some left
left_after true (Some zero) = Some 0
left_after false (Some zero) = None

-- a listing or a reading: at its turn it fails here alone, and else only inside
pub record ReadsWithFaults {S T : Type 0} {n : ℕ} (stays : Bool) (before after : FaultyStore S n)
    (answer : Result T StoreFault) : Type 0 where
  pub counted : after.left ≡ left_after stays before.left
  pub effect : after.takes_effect ≡ before.takes_effect
  pub passed : before.left ≢ Some 0 → after.failed ≡ before.failed
  pub burnt : before.left ≡ Some 0 → (answer ≡ Err Device) × (after.inner ≡ before.inner)

-- a put or a removal: the first that fails here is the only one that may take effect, and where it is reported to it is
-- passed on
pub record WritesWithFaults {S T : Type 0} {n : ℕ} (stays : Bool) (Passes : S → S → Result T StoreFault → Type 0)
    (before after : FaultyStore S n) (answer : Result T StoreFault) : Type 0 where
  pub counted : after.left ≡ left_after stays before.left
  pub passed : before.left ≢ Some 0 → (after.failed ≡ before.failed) × (after.takes_effect ≡ before.takes_effect)
  pub burnt : before.left ≡ Some 0 → (answer ≡ Err Device) × (after.takes_effect ≡ false)
  pub without : before.left ≡ Some 0 → before.takes_effect ≡ false → after.inner ≡ before.inner
  pub effect : before.left ≡ Some 0 → before.takes_effect ≡ true
      → (inside : Result T StoreFault) × Passes before.inner after.inner inside
