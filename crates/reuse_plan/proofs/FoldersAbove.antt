-- The folders above a path are those that it lies under.
use Rattle.std.proofs.Common.{◌≡◌, ◌==◌, inl, inr, ℕ, Bool, true, false, cond, List, [], ◌∷◌, ◌++◌, map, refl, sym, ap}
use Rattle.std.proofs.Common.{subst, ◌∙◌}
use Rattle.std.proofs.lemmas.Bool.{eqb-true}
use Rattle.reuse_notice.proofs.ClassLemmas.{In-append, In-right, In-from_map}
use Rattle.reuse_notice.proofs.SetLemmas.{In}
use Rattle.reuse_change.specs.Path.{lies_under, folders_above}
use Rattle.reuse_change.proofs.ListingLemmas.{under_from_test, test_from_under}

mapped_has : (byte : ℕ) (xs : List (List ℕ)) (t : List ℕ) → In t xs → In (byte ∷ t) (map (λ x. byte ∷ x) xs)
mapped_has byte [] t h = absurd h
mapped_has byte (x ∷ xs) t (inl is) = inl (ap (λ l. byte ∷ l) is)
mapped_has byte (x ∷ xs) t (inr h) = inr (mapped_has byte xs t h)

above_has : (folder rest : List ℕ) → In folder (folders_above (folder ++ 47 ∷ rest))
above_has [] rest = inl refl
above_has (byte ∷ folder) rest =
    In-right (cond (byte == 47) ([] ∷ []) [])
    (map (λ f. byte ∷ f) (folders_above (folder ++ 47 ∷ rest))) (byte ∷ folder)
    (mapped_has byte (folders_above (folder ++ 47 ∷ rest)) folder (above_has folder rest))

above_is : (path folder : List ℕ) → In folder (folders_above path) → (rest : List ℕ) × (path ≡ folder ++ 47 ∷ rest)
above_is [] folder h = absurd h
above_is (byte ∷ path) folder h =
    elim (In-append (cond (byte == 47) ([] ∷ []) []) (map (λ f. byte ∷ f) (folders_above path)) folder h) [
      | inl here ↦ at_slash (byte == 47) refl here
      | inr later ↦
          (let found = In-from_map (λ f. byte ∷ f) (folders_above path) folder later in
          let inner = above_is path found.0 found.1 in
          (inner.0, ap (λ l. byte ∷ l) inner.1 ∙ ap (λ f. f ++ 47 ∷ inner.0) (sym found.2)))
    ]
  where
    at_slash : (b : Bool) → (byte == 47) ≡ b → In folder (cond b ([] ∷ []) [])
        → (rest : List ℕ) × (byte ∷ path ≡ folder ++ 47 ∷ rest)
    at_slash true is (inl e) = (path, ap (λ (x : ℕ). x ∷ path) (eqb-true byte 47 is) ∙ ap (λ f. f ++ 47 ∷ path) (sym e))
    at_slash true is (inr none) = absurd none
    at_slash false is none = absurd none

pub above_under : (path folder : List ℕ) → In folder (folders_above path) → lies_under path folder ≡ true
above_under path folder h = test_from_under path folder (above_is path folder h)

pub under_above : (path folder : List ℕ) → lies_under path folder ≡ true → In folder (folders_above path)
under_above path folder e =
    let under = under_from_test path folder e in
    subst (λ p. In folder (folders_above p)) (sym under.1) (above_has folder under.0)
