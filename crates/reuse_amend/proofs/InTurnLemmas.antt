-- Replacements in turn keep the meaning of what they don't replace.
use Rattle.std.proofs.Common.{◌≡◌, ℕ, List, [], ◌∷◌, map, Some, subst}
use Rattle.std.specs.List.{AllByRecursion}
use Rattle.reuse_amend.specs.declared.replacements.Replacement.{Replacement}
use Rattle.reuse_amend.specs.Amending.{licence_amended, licence_replaced}
use Rattle.reuse_amend.specs.Meanings.{Meaning, Means, meaning_replaced, IsMeant, meaning_in_turn}
use Rattle.reuse_amend.proofs.ChoiceLemmas.{then_some}
use Rattle.reuse_amend.proofs.MeaningLemmas.{meaning_kept}

abbrev replacements_of : List (Replacement × Meaning) → List Replacement
replacements_of rs = map (λ (p : Replacement × Meaning). p.0) rs

pub kept_in_turn : (rs : List (Replacement × Meaning)) (value result : List ℕ) (m : Meaning) → AllByRecursion IsMeant rs
    → Means value m → licence_amended (replacements_of rs) value ≡ Some result → Means result (meaning_in_turn rs m)
unfolding licence_amended
kept_in_turn [] value result m each means e =
    let same : value ≡ result = cc e in subst (λ t. Means t m) same means
kept_in_turn (p ∷ rs) value result m each means e =
    let h = then_some (licence_amended (replacements_of rs)) (licence_replaced p.0 value) result e in
    kept_in_turn rs h.0 result (meaning_replaced p.0 p.1 m) each.1
    (meaning_kept p.0 value h.0 m p.1 each.0.0 means each.0.1 h.1) h.2
