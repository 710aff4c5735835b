-- Writes that a watched store passes on.
use Rattle.std.proofs.Common.{inl, inr, List, [], ◌∷◌, Result, Ok, ap, refl}
use Rattle.reuse_store.specs.Asked.{IsWrite, AreWrites}
use Rattle.reuse_store.specs.declared.fault.StoreFault.{StoreFault}
use Rattle.reuse_store.specs.declared.file_write.FileWrite.{FileWrite}
use Rattle.reuse_store.specs.declared.store.Store.{Ghosts}
use Rattle.reuse_store.specs.declared.watched.WatchedStore.{WatchedStore}
use Rattle.reuse_store.proofs.SameStores.{IsSameStore, same_write}

-- the members of a watched store
abbrev pub watched : {S W : Type 0} → Ghosts S → Ghosts (WatchedStore S W)
watched inside = record {
  files = λ store. inside.files store.inner;
  crash_states = λ store. inside.crash_states store.inner;
  failures = λ store. inside.failures store.inner;
  written = λ store. inside.written store.inner;
  mutations = λ store. inside.mutations store.inner;
  honest = λ store. inside.honest store.inner;
}

module _ {S W : Type 0} (inside : Ghosts S) where
  same_inner : (store : WatchedStore S W) → IsSameStore inside (watched {W = W} inside) store.inner store
  same_inner store =
      record {
        files = refl;
        failures = refl;
        written = refl;
        mutations = refl;
        gives = λ honest. honest;
        takes = λ honest. honest;
        gives_left = λ left is. is;
        takes_left = λ left is. is;
      }

  one : (write : FileWrite) (old : WatchedStore S W) (new : S) (answer : Result (Unit {0}) StoreFault)
      → IsWrite inside write.path.now write.file old.inner new answer
      → IsWrite (watched {W = W} inside) write.path.now write.file old (record old { inner = new }) answer
  one write old new answer is =
      same_write inside (watched {W = W} inside) old.inner new old (record old { inner = new })
      (same_inner old) (same_inner (record old { inner = new })) write.path.now write.file answer is

  pub passed_on : (writes : List FileWrite) (old : WatchedStore S W) (new : S) (answer : Result (Unit {0}) StoreFault)
      → AreWrites inside writes old.inner new answer
      → AreWrites (watched {W = W} inside) writes old (record old { inner = new }) answer
  passed_on [] old new answer done = (ap (λ s. record old { inner = s }) done.0, done.1)
  passed_on (write ∷ writes) old new answer (inl failed) =
      inl (one write old new answer failed.0, failed.1, failed.2)
  passed_on (write ∷ writes) old new answer (inr made) = inr (
    record old { inner = made.0 },
    one write old made.0 (Ok tt) made.1,
    passed_on writes (record old { inner = made.0 }) new answer made.2,
  )
