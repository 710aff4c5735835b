-- Writes, one after the other.
use Rattle.std.proofs.Common.{◌≡◌, ◌⊎◌, inl, inr, ℕ, ◌+◌, ◌<◌, List, [], ◌∷◌, ◌++◌, length, take, drop, get_or, Result}
use Rattle.std.proofs.Common.{Ok, Err, refl, sym, ap, subst, ◌∙◌}
use Rattle.std.proofs.lemmas.List.{take_more, take-append-drop}
use Rattle.reuse_store.specs.Asked.{IsWrite, AreWrites}
use Rattle.reuse_store.specs.declared.fault.StoreFault.{StoreFault}
use Rattle.reuse_store.specs.declared.file_write.FileWrite.{FileWrite}
use Rattle.reuse_store.specs.declared.store.Store.{Ghosts}
use Rattle.reuse_store.proofs.AtChange.{left_here}

module _ {S : Type 0} (store : Ghosts S) where
  -- writes that succeed, and more behind them
  pub then_more : (before more : List FileWrite) (old mid new : S) (answer : Result (Unit {0}) StoreFault)
      → AreWrites store before old mid (Ok tt) → AreWrites store more mid new answer
      → AreWrites store (before ++ more) old new answer
  then_more [] more old mid new answer done next = subst (λ s. AreWrites store more s new answer) done.0 next
  then_more (write ∷ before) more old mid new answer (inl failed) next = absurd (cc)
  then_more (write ∷ before) more old mid new answer (inr made) next =
      inr (made.0, made.1, then_more before more made.0 mid new answer made.2 next)

  module _ (writes : List FileWrite) (i : ℕ) (lt : i < length writes) (write : FileWrite)
      (is : write ≡ get_or writes i write) (old mid new : S)
      (so_far : AreWrites store (take i writes) old mid (Ok tt)) where
    -- one more succeeds
    pub one_more : IsWrite store write.path.now write.file mid new (Ok tt)
        → AreWrites store (take (i + 1) writes) old new (Ok tt)
    one_more made =
        subst (λ ws. AreWrites store ws old new (Ok tt))
        (sym (take_more writes i write lt ∙ ap (λ w. take i writes ++ w ∷ []) (sym is)))
        (then_more (take i writes) (write ∷ []) old mid new (Ok tt) so_far (inr (new, made, (refl, refl))))

    -- the next fails
    pub next_fails : (fault : StoreFault) → IsWrite store write.path.now write.file mid new (Err fault)
        → AreWrites store writes old new (Err fault)
    next_fails fault failed =
        subst (λ ws. AreWrites store ws old new (Err fault))
        (ap (λ rest. take i writes ++ rest) (sym (left_here writes i lt write is)) ∙ take-append-drop i writes)
        (then_more (take i writes) (write ∷ drop (i + 1) writes) old mid new (Err fault) so_far
        (inl (failed, fault, refl)))
