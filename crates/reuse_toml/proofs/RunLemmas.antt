-- A run of any characters before what a fact holds of, as `*` in a pattern and `**` in a glob are.
use Rattle.std.proofs.Common.{◌≡◌, ℕ, ◌↔◌, List, [], ◌∷◌, ◌++◌, refl, sym, ap, subst, ◌∙◌, append_assoc}

-- two runs are one
pub joined : (path run rest next tail : List ℕ) → path ≡ run ++ rest → rest ≡ next ++ tail
    → path ≡ (run ++ next) ++ tail
joined path run rest next tail e f = e ∙ ap (λ r. run ++ r) f ∙ sym (append_assoc run next tail)

module _ (Holds : List ℕ → Type 0) where
  -- behind some run the fact holds
  abbrev pub HoldsAfterRun : List ℕ → Type 0
  HoldsAfterRun path = (run rest : List ℕ) × (path ≡ run ++ rest) × Holds rest

  pub no_run : (path : List ℕ) → Holds path → HoldsAfterRun path
  no_run path m = ([], path, refl, m)

  -- a run of one character more
  pub run_shorter : (c : ℕ) (rest : List ℕ) → ¬ Holds (c ∷ rest) → HoldsAfterRun (c ∷ rest) ↔ HoldsAfterRun rest
  run_shorter c rest not = (λ m. by_run m.0 m.1 m.2 m.3, λ m. (c ∷ m.0, m.1, ap (λ r. c ∷ r) m.2, m.3))
    where
      by_run : (run tail : List ℕ) → c ∷ rest ≡ run ++ tail → Holds tail → HoldsAfterRun rest
      by_run [] tail e m = absurd (not (subst Holds (sym e) m))
      by_run (x ∷ xs) tail e m = (xs, tail, cc, m)

  run_empty : ¬ Holds [] → ¬ HoldsAfterRun []
  run_empty not m = by_run m.0 m.1 m.2 m.3
    where
      by_run : (run tail : List ℕ) → [] ≡ run ++ tail → Holds tail → ⊥
      by_run [] tail e m = not (subst Holds (sym e) m)
      by_run (x ∷ xs) tail e m = cc

  -- a search goes on behind the next character, and ends where there is none
  pub run_next : (path rest tail : List ℕ) (c : ℕ) → rest ≡ c ∷ tail → ¬ Holds rest
      → HoldsAfterRun path ↔ HoldsAfterRun rest → HoldsAfterRun path ↔ HoldsAfterRun tail
  run_next path rest tail c e not same =
      let step = run_shorter c tail (λ n. not (subst Holds (sym e) n)) in
      (λ m. step.0 (subst HoldsAfterRun e (same.0 m)), λ m. same.1 (subst HoldsAfterRun (sym e) (step.1 m)))

  pub run_end : (path rest : List ℕ) → rest ≡ [] → ¬ Holds rest → HoldsAfterRun path ↔ HoldsAfterRun rest
      → ¬ HoldsAfterRun path
  run_end path rest e not same = λ m. run_empty (λ n. not (subst Holds (sym e) n)) (subst HoldsAfterRun e (same.0 m))

pub runs_join : (Holds : List ℕ → Type 0) (path : List ℕ) → HoldsAfterRun (HoldsAfterRun Holds) path
    → HoldsAfterRun Holds path
runs_join Holds path m = (m.0 ++ m.3.0, m.3.1, joined path m.0 m.1 m.3.0 m.3.1 m.2 m.3.2, m.3.3)
