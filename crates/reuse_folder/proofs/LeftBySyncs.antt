-- What a barrier leaves to a loss of power.
use Rattle.std.proofs.Common.{List, ◌∷◌, Result, Ok, Err, OnOk}
use Rattle.reuse_store.specs.Calls.{Call}
use Rattle.reuse_store.specs.Calls.Call.{SyncCall}
use Rattle.reuse_change.specs.Files.{Files}
use Rattle.reuse_store.specs.Durable.{DurableAfterBarrier}
use Rattle.reuse_change.specs.declared.change.Change.{Change}
use Rattle.reuse_store.specs.declared.fault.StoreFault.{StoreFault}
use Rattle.reuse_folder.specs.Honesty.{files_of, IsCrashState}

module _ (start : Files) (initial_crash_states : List Files) (calls : List Call) (changes : List Change) where
  -- no more than what might be left before
  pub no_more : (answer : Result (Unit {0}) StoreFault) (left : Files) → IsCrashState start initial_crash_states
      (SyncCall changes answer ∷ calls) left → IsCrashState start initial_crash_states calls left
  no_more (Ok done) left is = is.0
  no_more (Err fault) left is = is

  -- where it succeeds it is certain
  pub certain :
      (answer : Result (Unit {0}) StoreFault)
      → OnOk answer ((left : Files) → IsCrashState start initial_crash_states (SyncCall changes answer ∷ calls) left
      → (kept : Files) × IsCrashState start initial_crash_states calls kept
      × DurableAfterBarrier changes (files_of start calls) kept left)
  certain (Ok done) = λ left is. (left, is.0, is.1)
  certain (Err fault) = tt
