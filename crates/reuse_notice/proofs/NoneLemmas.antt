-- Bytes of which none passes a test, and their parts.
use Rattle.std.proofs.Common.{◌≡◌, ℕ, zero, suc, Bool, true, false, List, [], ◌∷◌, ◌++◌, take, drop, refl, sym, ◌∙◌}
use Rattle.std.proofs.Common.{inl, inr}
use Rattle.std.specs.Prelude.{◌||◌}
use Rattle.std.specs.List.{list_all, list_any}
use Rattle.std.proofs.lemmas.Bool.{false≢true, or_parts, false_from_ne_true, cases_Bool as truth}
use Rattle.std.proofs.lemmas.List.Folds.{list_any-append}
use Rattle.reuse_notice.specs.Tags.{drop_front, drop_end, trimmed}

pub or_none : (a b : Bool) → a ≡ false → b ≡ false → (a || b) ≡ false
or_none true b e f = e
or_none false b e f = f

module _ (p : ℕ → Bool) where
  pub none_append : (xs ys : List ℕ) → list_any p xs ≡ false → list_any p ys ≡ false → list_any p (xs ++ ys) ≡ false
  none_append xs ys e f = list_any-append p xs ys ∙ or_none (list_any p xs) (list_any p ys) e f

  pub none_drop : (n : ℕ) (xs : List ℕ) → list_any p xs ≡ false → list_any p (drop n xs) ≡ false
  none_drop zero xs e = e
  none_drop (suc n) [] e = refl
  none_drop (suc n) (x ∷ xs) e = none_drop n xs (or_parts (p x) (list_any p xs) e).1

  pub none_take : (n : ℕ) (xs : List ℕ) → list_any p xs ≡ false → list_any p (take n xs) ≡ false
  none_take zero xs e = refl
  none_take (suc n) [] e = refl
  none_take (suc n) (x ∷ xs) e = let q = or_parts (p x) (list_any p xs) e in
      or_none (p x) (list_any p (take n xs)) q.0 (none_take n xs q.1)

  pub none_front : (test : ℕ → Bool) (xs : List ℕ) → list_any p xs ≡ false → list_any p (drop_front test xs) ≡ false
  unfolding drop_front
  none_front test [] e = refl
  none_front test (x ∷ xs) e = elim (truth (test x)) [
    | inl t ↦ rw t (none_front test xs (or_parts (p x) (list_any p xs) e).1)
    | inr f ↦ rw f e
  ]

  pub none_end : (test : ℕ → Bool) (xs : List ℕ) → list_any p xs ≡ false → list_any p (drop_end test xs) ≡ false
  unfolding drop_end
  none_end test [] e = refl
  none_end test (x ∷ xs) e = elim (truth (list_all test (x ∷ xs))) [
    | inl t ↦ rw t refl
    | inr f ↦ (let q = or_parts (p x) (list_any p xs) e in
        rw f (or_none (p x) (list_any p (drop_end test xs)) q.0 (none_end test xs q.1)))
  ]

  pub none_trimmed : (test : ℕ → Bool) (xs : List ℕ) → list_any p xs ≡ false → list_any p (trimmed test xs) ≡ false
  none_trimmed test xs e = none_end test (drop_front test xs) (none_front test xs e)

pub none_weaker : (p q : ℕ → Bool) → ((b : ℕ) → q b ≡ true → p b ≡ true) → (xs : List ℕ) → list_any p xs ≡ false
    → list_any q xs ≡ false
none_weaker p q w [] e = refl
none_weaker p q w (x ∷ xs) e =
    let parts = or_parts (p x) (list_any p xs) e in
    or_none (q x) (list_any q xs) (false_from_ne_true (q x) (λ t. false≢true (sym parts.0 ∙ w x t)))
    (none_weaker p q w xs parts.1)
