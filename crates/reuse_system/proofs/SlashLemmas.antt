-- The last slash of a path.
use Rattle.std.proofs.Common.{◌≡◌, ◌≢◌, ◌⊎◌, ◌<◌, ◌≤◌, ◌+◌, inl, inr, ℕ, List, [], ◌∷◌, ◌++◌, length, take, drop}
use Rattle.std.proofs.Common.{get_or, Option, None, Some, MatchOption, Bor, refl, sym, ◌∙◌, ap, arith, take-append-drop}
use Rattle.std.proofs.lemmas.Str.Pattern.{NoCharPasses-char, drop_at_char}
use Rattle.std.specs.Str.Pattern.{RFindsChar}
use Rattle.reuse_system.specs.Names.{IsNameOf, IsSplit}

named : (text name rest : List ℕ) → name ≡ rest → (rest ≡ text) ⊎ ((folder : List ℕ) × (text ≡ folder ++ 47 ∷ rest))
    → ((i : ℕ) → i < length rest → get_or rest i 0 ≢ 47) → IsNameOf text name
named text name rest e behind last = rw e (record { behind = behind; last = last })

-- takes the clause of `rsplit_once` at a slash
pub name_behind : (text name : List ℕ) (r : Option (Bor (List ℕ) × Bor (List ℕ)))
    → MatchOption r (RFindsChar 47 text None)
    (λ x. (i : ℕ) × (j : ℕ) × RFindsChar 47 text (Some (i, j)) × (x.0.now ≡ take i text) × (x.1.now ≡ drop j text)
    × (i ≤ j) × (length x.0.now ≡ i) × (length x.1.now + j ≡ length text))
    → MatchOption r (name ≡ text) (λ x. name ≡ x.1.now) → IsNameOf text name
name_behind text name None none e =
    named text name text e (inl refl) (λ i short. NoCharPasses-char 47 text i none (omega arith) short)
name_behind text name (Some x) h e =
    let i = h.0 in
    let j = h.1 in
    named text name (drop j text) (e ∙ h.4)
    (inr (
      take i text,
      sym (take-append-drop i text) ∙ ap (λ l. take i text ++ l) (drop_at_char 47 text i j h.2.1 (omega arith)),
    ))
    (λ n short. NoCharPasses-char 47 (drop j text) n h.2.0 (omega arith) short)

split : (text folder name above rest : List ℕ) → folder ≡ above → name ≡ rest
    → ((above ≡ []) × (rest ≡ text)) ⊎ (text ≡ above ++ 47 ∷ rest)
    → ((i : ℕ) → i < length rest → get_or rest i 0 ≢ 47) → IsSplit text folder name
split text folder name above rest same e parts last = rw (same, e) (record { parts = parts; last = last })

-- the same of the folder before it
pub split_behind : (text folder name : List ℕ) (r : Option (Bor (List ℕ) × Bor (List ℕ)))
    → MatchOption r (RFindsChar 47 text None)
    (λ x. (i : ℕ) × (j : ℕ) × RFindsChar 47 text (Some (i, j)) × (x.0.now ≡ take i text) × (x.1.now ≡ drop j text)
    × (i ≤ j) × (length x.0.now ≡ i) × (length x.1.now + j ≡ length text))
    → MatchOption r (folder ≡ []) (λ x. folder ≡ x.0.now) → MatchOption r (name ≡ text) (λ x. name ≡ x.1.now)
    → IsSplit text folder name
split_behind text folder name None none same e = split text folder name [] text same e (inl (refl, refl))
    (λ i short. NoCharPasses-char 47 text i none (omega arith) short)
split_behind text folder name (Some x) h same e =
    let i = h.0 in
    let j = h.1 in
    split text folder name (take i text) (drop j text) (same ∙ h.3) (e ∙ h.4)
    (inr (sym (take-append-drop i text) ∙ ap (λ l. take i text ++ l) (drop_at_char 47 text i j h.2.1 (omega arith))))
    (λ n short. NoCharPasses-char 47 (drop j text) n h.2.0 (omega arith) short)
