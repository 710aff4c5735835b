-- Some changes that are taken back, seen from the tree on which they were made.
use Rattle.std.proofs.Common.{◌≡◌, ◌⊎◌, inl, inr, ⊎_elim, ◌<◌, ◌≤◌, ℕ, Bool, true, false, get_or, List, length, take}
use Rattle.std.proofs.Common.{arith, refl, sym, subst, ◌∙◌}
use Rattle.std.specs.FinMap.{get}
use Rattle.std.proofs.lemmas.Bool.{false≢true, cases_lt}
use Rattle.std.proofs.lemmas.List.{get_or-take, length-take}
use Rattle.reuse_change.specs.Change.{path_of}
use Rattle.reuse_change.specs.Entry.{opposite, touches, IsEntry, SomeMade, AppliesBy}
use Rattle.reuse_change.specs.Files.{Files}
use Rattle.reuse_change.specs.declared.change.Change.{Change}
use Rattle.reuse_change.specs.declared.direction.Direction.{Direction}
use Rattle.reuse_store.proofs.MadeLemmas.{not_in_front, applied}
use Rattle.reuse_change.proofs.Walk.{front_touches}

module _ (direction : Direction) (changes : List Change) where
  -- where some of the first so many are made, some of all are
  pub made_in_front : IsEntry changes → (count : ℕ) (before now : Files)
      → SomeMade direction (take count changes) before now → SomeMade direction changes before now
  made_in_front good count before now some = record {
    each = λ k d lt. ⊎_elim
        (λ (low : k < count).
        let h : k < length (take count changes) = omega (arith, length-take count changes) in
        subst (λ c. (get now (path_of c) ≡ get before (path_of c)) ⊎ AppliesBy direction c (get before (path_of c))
        (get now (path_of c))) (get_or-take count changes k d low) (some.each k d h))
        (λ (high : count ≤ k). inl
        (some.others (path_of (get_or changes k d)) (not_in_front changes good count k d lt high)))
        (cases_lt k count);
    others = λ path none. some.others path (at_test path none (touches (take count changes) path) refl);
  }
    where
      at_test : (path : List ℕ) → touches changes path ≡ false → (b : Bool) → touches (take count changes) path ≡ b
          → touches (take count changes) path ≡ false
      at_test path none false e = e
      at_test path none true e = absurd (false≢true (sym none ∙ front_touches changes count path e))

  pub seen_from_there : (before now : Files) → SomeMade direction changes before now
      → SomeMade (opposite direction) changes now before
  seen_from_there before now some = record {
    each = λ k d lt.
        let c = get_or changes k d in
        ⊎_elim
        (λ (same : get now (path_of c) ≡ get before (path_of c)). inl (sym same))
        (λ (applies : AppliesBy direction c (get before (path_of c)) (get now (path_of c))). inr
        (applied direction c (get before (path_of c)) (get now (path_of c)) applies))
        (some.each k d lt);
    others = λ path none. sym (some.others path none);
  }
