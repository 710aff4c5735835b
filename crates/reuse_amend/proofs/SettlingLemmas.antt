-- Replacing whole texts settles exactly if it settles on the old ones.
use Rattle.std.proofs.Common.{ℕ, List, [], ◌∷◌, sym, ap, subst, inl, inr, ◌⊎◌}
use Rattle.std.specs.List.{AllByRecursion}
use Rattle.std.specs.Str.{bytes_eq}
use Rattle.std.proofs.lemmas.Bool.{cases_Bool as truth}
use Rattle.std.proofs.lemmas.Slice.Eq.{bytes_eq-Decides}
use Rattle.reuse_amend.specs.declared.replacements.Replacement.{Replacement}
use Rattle.reuse_amend.specs.Amending.{text_amended}
use Rattle.reuse_amend.specs.Settled.{Settles}
use Rattle.reuse_amend.specs.Unnamed.{IsNoOld}
use Rattle.reuse_amend.proofs.NamedLemmas.{no_text}
use Rattle.reuse_amend.proofs.UnnamedLemmas.{text-stays}

module _ (rs : List Replacement) where
  -- a text is none of the old ones of some replacements, or one that settles
  old_or_none : (some : List Replacement) (text : List ℕ) → AllByRecursion (λ r. Settles rs r.old) some
      → IsNoOld some text ⊎ Settles rs text
  old_or_none [] text each = inl tt
  old_or_none (r ∷ some) text each = elim (truth (bytes_eq text r.old)) [
    | inl is ↦ inr (subst (Settles rs) (sym ((bytes_eq-Decides text r.old).0 is)) each.0)
    | inr isnt ↦ (elim (old_or_none some text each.1) [
      | inl none ↦ inl (no_text text r.old isnt, none)
      | inr settles ↦ inr settles
    ])
  ]

  pub all_settle : AllByRecursion (λ r. Settles rs r.old) rs → (text : List ℕ) → Settles rs text
  all_settle each text = elim (old_or_none rs text each) [
    | inl none ↦ ap (text_amended rs) (text-stays rs text none)
    | inr settles ↦ settles
  ]

  each_settles : ((text : List ℕ) → Settles rs text) → (some : List Replacement)
      → AllByRecursion (λ r. Settles rs r.old) some
  each_settles all [] = tt
  each_settles all (r ∷ some) = (all r.old, each_settles all some)

  pub old_settle : ((text : List ℕ) → Settles rs text) → AllByRecursion (λ r. Settles rs r.old) rs
  old_settle all = each_settles all rs
