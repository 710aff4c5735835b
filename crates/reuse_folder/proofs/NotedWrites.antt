-- Writes that a store notes whose members are read off its record of calls.
use Rattle.std.specs.Prelude.{◌==◌}
use Rattle.std.proofs.Common.{◌≡◌, inl, inr, ℕ, false, List, [], ◌∷◌, length, Option, Some, None, Result, Ok, subst}
use Rattle.reuse_store.specs.Asked.{IsWrite, AreWrites}
use Rattle.reuse_store.specs.Calls.{failures_of, written_of, mutations_of}
use Rattle.reuse_store.specs.declared.fault.StoreFault.{StoreFault}
use Rattle.reuse_store.specs.declared.file_write.FileWrite.{FileWrite}
use Rattle.reuse_change.specs.declared.parts.Pieces.{Pieces}
use Rattle.reuse_store.specs.declared.record.StoreCalls.{StoreCalls}
use Rattle.reuse_store.specs.declared.store.Store.{Ghosts}
use Rattle.reuse_folder.specs.Honesty.{files_of, IsHonest, IsCrashState}

-- the members of such a store
abbrev pub noted : {S : Type 0} → (S → StoreCalls) → Ghosts S
noted calls_of = record {
  files = λ store. files_of (calls_of store).start (calls_of store).calls;
  crash_states =
      λ store. IsCrashState (calls_of store).start (calls_of store).initial_crash_states (calls_of store).calls;
  failures = λ store. failures_of (calls_of store).calls;
  written = λ store. written_of (calls_of store).calls;
  mutations = λ store. mutations_of (calls_of store).calls;
  honest = λ store. IsHonest (calls_of store).start (calls_of store).calls;
}

module _ {S : Type 0} (calls_of : S → StoreCalls) where
  record_of : (path : List ℕ) (file : Option Pieces) (old new : S) (answer : Result (Unit {0}) StoreFault)
      → IsWrite (noted calls_of) path file old new answer
      → IsWrite (noted (λ calls. calls)) path file (calls_of old) (calls_of new) answer
  record_of path None old new answer write = assumption write
  record_of path (Some parts) old new answer write = assumption write

  of_record : (path : List ℕ) (file : Option Pieces) (old new : S) (answer : Result (Unit {0}) StoreFault)
      → IsWrite (noted (λ calls. calls)) path file (calls_of old) (calls_of new) answer
      → IsWrite (noted calls_of) path file old new answer
  of_record path None old new answer write = assumption write
  of_record path (Some parts) old new answer write = assumption write

  -- a write at a store with one record is one at each store that has it
  at_other : (path : List ℕ) (file : Option Pieces) (old other new : S) (answer : Result (Unit {0}) StoreFault)
      → calls_of other ≡ calls_of old → IsWrite (noted calls_of) path file other new answer
      → IsWrite (noted calls_of) path file old new answer
  at_other path file old other new answer same write = of_record path file old new answer
      (subst (λ calls. IsWrite (noted (λ calls. calls)) path file calls (calls_of new) answer) same
      (record_of path file other new answer write))

  -- so it is of writes that begin there
  pub begin_at : (write : FileWrite) (writes : List FileWrite) (old other new : S)
      (answer : Result (Unit {0}) StoreFault) → calls_of other ≡ calls_of old
      → AreWrites (noted calls_of) (write ∷ writes) other new answer
      → AreWrites (noted calls_of) (write ∷ writes) old new answer
  begin_at write writes old other new answer same (inl failed) =
      inl (at_other write.path.now write.file old other new answer same failed.0, failed.1, failed.2)
  begin_at write writes old other new answer same (inr made) =
      inr (made.0, at_other write.path.now write.file old other made.0 (Ok tt) same made.1, made.2)

  pub begin_any : (writes : List FileWrite) (old other new : S) (answer : Result (Unit {0}) StoreFault)
      → (length writes == 0) ≡ false → calls_of other ≡ calls_of old
      → AreWrites (noted calls_of) writes other new answer → AreWrites (noted calls_of) writes old new answer
  begin_any [] old other new answer some same done = absurd (cc)
  begin_any (write ∷ writes) old other new answer some same done = begin_at write writes old other new answer same done
