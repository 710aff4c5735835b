-- What one write leaves: a put or a removal at its path.
use Rattle.std.proofs.Common.{◌≡◌, ◌⊎◌, ℕ, List, Option, Some, None, IsSome, Result, Ok, Err, OnOk}
use Rattle.std.proofs.Common.{OnErr, refl}
use Rattle.std.specs.FinMap.{remove}
use Rattle.std.specs.Result.{IfErr}
use Rattle.reuse_store.specs.Store.{Puts, PutFails, RemoveFails}
use Rattle.reuse_store.specs.Asked.{IsLater, IsPut, IsRemoval, IsWrite}
use Rattle.reuse_change.specs.Files.{Clashes}
use Rattle.reuse_change.specs.Parts.{joined}
use Rattle.reuse_change.specs.Tree.{Sets}
use Rattle.reuse_store.specs.Apply.{held_in}
use Rattle.reuse_store.specs.declared.fault.StoreFault.{StoreFault}
use Rattle.reuse_store.specs.declared.fault.StoreFault.TheVariants.{Clash}
use Rattle.reuse_change.specs.declared.parts.Pieces.{Pieces}
use Rattle.reuse_store.specs.declared.store.Store.{Ghosts}
use Rattle.reuse_store.specs.WriteLeaves.{WriteLeaves}
use Rattle.reuse_store.proofs.Durable.{may_set_by_put, may_set_by_removal}
use Rattle.reuse_store.proofs.ApplyLemmas.{counts_none, put_sets, removal_sets, put_doubt, removal_doubt}

module _ {S : Type 0} (store : Ghosts S) (path : List ℕ) (old new : S) where
  put_leaves : (answer : Result (Unit {0}) StoreFault) (bytes : List ℕ) → IsPut store path bytes old new answer
      → IsLater store old new → WriteLeaves store path (Some bytes) old new answer
  put_leaves answer bytes put later = record {
    later = later;
    mutations = put.mutations;
    written = λ of_tree. counts_none path bytes _ _ of_tree put.written;
    ok = ok answer (λ honest. put.ok honest);
    err = err answer (λ honest. put.err honest);
    clash = clash answer (λ honest. put.err honest);
    device = put.device;
    left = may_set_by_put store old new answer path bytes put;
  }
    where
      ok : (r : Result (Unit {0}) StoreFault)
          → (store.honest new → OnOk r (Puts path bytes (store.files old) (store.files new))) → store.honest new
          → OnOk r (Sets path (Some bytes) (store.files old) (store.files new))
      ok (Ok done) puts honest = put_sets _ _ path bytes (puts honest)
      ok (Err fault) puts honest = tt

      err : (r : Result (Unit {0}) StoreFault)
          → (store.honest new → IfErr r (λ fault. PutFails fault path bytes (store.files old) (store.files new)))
          → store.honest new
          → OnErr r ((store.files new ≡ store.files old) ⊎ Sets path (Some bytes) (store.files old) (store.files new))
      err (Ok done) fails honest = tt
      err (Err fault) fails honest = put_doubt fault _ _ path bytes (fails honest)

      clash : (r : Result (Unit {0}) StoreFault)
          → (store.honest new → IfErr r (λ fault. PutFails fault path bytes (store.files old) (store.files new)))
          → store.honest new → r ≡ Err Clash → Clashes (store.files old) path × IsSome (Some bytes)
      clash (Ok done) fails honest e = absurd (cc)
      clash (Err fault) fails honest e = ((at fault (cc) (fails honest)).0, refl)
        where
          at : (f : StoreFault) → f ≡ Clash → PutFails f path bytes (store.files old) (store.files new)
              → Clashes (store.files old) path × (store.files new ≡ store.files old)
          at Clash is h = h
          at fault is h = absurd (cc)

  removal_leaves : (answer : Result (Unit {0}) StoreFault) → IsRemoval store path old new answer → IsLater store old new
      → WriteLeaves store path None old new answer
  removal_leaves answer removal later = record {
    later = later;
    mutations = removal.mutations;
    written = λ of_tree. removal.written;
    ok = ok answer (λ honest. removal.ok honest);
    err = err answer (λ honest. removal.err honest);
    clash = clash answer (λ honest. removal.err honest);
    device = removal.device;
    left = may_set_by_removal store old new answer path removal;
  }
    where
      ok : (r : Result (Unit {0}) StoreFault)
          → (store.honest new → OnOk r (store.files new ≡ remove (store.files old) path)) → store.honest new
          → OnOk r (Sets path None (store.files old) (store.files new))
      ok (Ok done) is honest = removal_sets _ _ path (is honest)
      ok (Err fault) is honest = tt

      err : (r : Result (Unit {0}) StoreFault)
          → (store.honest new → IfErr r (λ fault. RemoveFails fault path (store.files old) (store.files new)))
          → store.honest new
          → OnErr r ((store.files new ≡ store.files old) ⊎ Sets path None (store.files old) (store.files new))
      err (Ok done) fails honest = tt
      err (Err fault) fails honest = removal_doubt fault _ _ path (fails honest)

      clash : (r : Result (Unit {0}) StoreFault)
          → (store.honest new → IfErr r (λ fault. RemoveFails fault path (store.files old) (store.files new)))
          → store.honest new → r ≡ Err Clash → Clashes (store.files old) path × IsSome {T = List ℕ} None
      clash (Ok done) fails honest e = absurd (cc)
      clash (Err fault) fails honest e = absurd (at fault (cc) (fails honest))
        where
          at : (f : StoreFault) → f ≡ Clash → RemoveFails f path (store.files old) (store.files new) → ⊥
          at Clash is h = h
          at fault is h = absurd (cc)

  pub write_leaves : (answer : Result (Unit {0}) StoreFault) (file : Option Pieces)
      → IsWrite store path file old new answer → WriteLeaves store path (held_in file) old new answer
  write_leaves answer None write = removal_leaves answer write.0 write.1
  write_leaves answer (Some parts) write = put_leaves answer (joined parts) write.0 write.1
