-- Members of lists that are filtered, and of lists that some test finds one in.
use Rattle.std.proofs.Common.{◌≡◌, inl, inr, ℕ, Bool, true, false, ◌||◌, cond, List, [], ◌∷◌, filter, refl, sym, ap}
use Rattle.std.proofs.Common.{◌∙◌}
use Rattle.std.specs.List.{list_any}
use Rattle.std.proofs.lemmas.Bool.{false≢true, or_right}
use Rattle.reuse_notice.proofs.SetLemmas.{In}

module _ (test : List ℕ → Bool) (t : List ℕ) where
  pub In-filter : (xs : List (List ℕ)) → In t (filter test xs) → In t xs × (test t ≡ true)
  In-filter [] h = absurd h
  In-filter (x ∷ xs) h = of_test (test x) refl h (In-filter xs)
    where
      of_test : (b : Bool) → test x ≡ b → In t (cond b (x ∷ filter test xs) (filter test xs))
          → (In t (filter test xs) → In t xs × (test t ≡ true)) → In t (x ∷ xs) × (test t ≡ true)
      of_test true e (inl is) later = (inl is, ap test is ∙ e)
      of_test true e (inr k) later = let f = later k in (inr f.0, f.1)
      of_test false e k later = let f = later k in (inr f.0, f.1)

  pub filter-has : (xs : List (List ℕ)) → In t xs → test t ≡ true → In t (filter test xs)
  filter-has [] h e = absurd h
  filter-has (x ∷ xs) (inl is) e = of_test (test x) (ap test (sym is) ∙ e)
    where
      of_test : (b : Bool) → b ≡ true → In t (cond b (x ∷ filter test xs) (filter test xs))
      of_test true h = inl is
      of_test false h = absurd (false≢true h)
  filter-has (x ∷ xs) (inr k) e = of_test (test x) (filter-has xs k e)
    where
      of_test : (b : Bool) → In t (filter test xs) → In t (cond b (x ∷ filter test xs) (filter test xs))
      of_test true h = inr h
      of_test false h = h

  pub any_has : (xs : List (List ℕ)) → In t xs → test t ≡ true → list_any test xs ≡ true
  any_has [] h e = absurd h
  any_has (x ∷ xs) (inl is) e = ap (λ b. b || list_any test xs) (ap test (sym is) ∙ e)
  any_has (x ∷ xs) (inr k) e = or_right (test x) (list_any test xs) (any_has xs k e)

pub any_from : (test : List ℕ → Bool) (xs : List (List ℕ)) → list_any test xs ≡ true
    → (t : List ℕ) × In t xs × (test t ≡ true)
any_from test [] e = absurd (false≢true e)
any_from test (x ∷ xs) e = of_test (test x) refl (any_from test xs)
  where
    of_test : (b : Bool) → test x ≡ b → (list_any test xs ≡ true → (t : List ℕ) × In t xs × (test t ≡ true))
        → (t : List ℕ) × In t (x ∷ xs) × (test t ≡ true)
    of_test true is later = (x, inl refl, is)
    of_test false is later = let found = later (sym (ap (λ b. b || list_any test xs) is) ∙ e) in
        (found.0, inr found.1, found.2)
