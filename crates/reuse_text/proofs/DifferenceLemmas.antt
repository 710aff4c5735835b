-- What two texts begin and end with, and that the one is the other with what differs.
use Rattle.std.proofs.Common.{inl, inr, ◌≡◌, ◌⊎◌, ℕ, suc, ◌+◌, ◌-◌, ◌<◌, ◌≤◌, Bool, true, false, List, [], ◌∷◌}
use Rattle.std.proofs.Common.{◌++◌, length, get_or, take, drop, reverse, refl, sym, ap, ap₂, ◌∙◌, arith}
use Rattle.std.proofs.Common.{append_assoc, cond}
use Rattle.std.specs.Prelude.{nat_eq, ◌==◌}
use Rattle.std.proofs.Math.Seq.{take-append_seam}
use Rattle.std.proofs.lemmas.Bool.{cases_Bool}
use Rattle.std.proofs.lemmas.Bool.Decides.{Decides-eqb}
use Rattle.std.proofs.lemmas.List.{length-drop, length-reverse, get_or-reverse, reverse-append, reverse-reverse}
use Rattle.std.proofs.lemmas.List.{take-append-drop, drop-drop}
use Rattle.std.proofs.lemmas.List.Sums.{common_prefix_len-le, common_prefix_len-drop_yes, common_prefix_len-drop_no}
use Rattle.reuse_text.specs.Difference.{same_front, same_end}
use Rattle.reuse_text.specs.Text.{spliced}

-- ---- counted byte by byte, from the front

pub front-more : (old new : List ℕ) (i d : ℕ) → i < length old → i < length new
    → get_or old i d ≡ get_or new i d
    → same_front old new ≡ i + same_front (drop i old) (drop i new)
    → same_front old new ≡ i + 1 + same_front (drop (i + 1) old) (drop (i + 1) new)
front-more old new i d low low' here so =
    let more = common_prefix_len-drop_yes nat_eq old new i d d low low'
    ((Decides-eqb (get_or old i d) (get_or new i d)).1 here) in
    omega arith

pub front-stops : (old new : List ℕ) (i d : ℕ) → i < length old → i < length new
    → (get_or old i d ≡ get_or new i d → ⊥)
    → same_front old new ≡ i + same_front (drop i old) (drop i new) → i ≡ same_front old new
front-stops old new i d low low' differ so =
    let apart : nat_eq (get_or old i d) (get_or new i d) ≡ false =
    elim (cases_Bool (nat_eq (get_or old i d) (get_or new i d))) [
      | inl equal ↦ absurd (differ ((Decides-eqb (get_or old i d) (get_or new i d)).0 equal))
      | inr other ↦ other
    ] in
    let none = common_prefix_len-drop_no nat_eq old new i d d low low' apart in
    omega arith

pub front-ends : (old new : List ℕ) (i : ℕ) → (length old ≤ i) ⊎ (length new ≤ i)
    → same_front old new ≡ i + same_front (drop i old) (drop i new) → i ≡ same_front old new
front-ends old new i (inl late) so =
    let few = common_prefix_len-le nat_eq (drop i old) (drop i new) in
    omega (arith, few.0, length-drop i old)
front-ends old new i (inr late) so =
    let few = common_prefix_len-le nat_eq (drop i old) (drop i new) in
    omega (arith, few.1, length-drop i new)

-- ---- and from the end

pub end-more : (old new : List ℕ) (i d : ℕ) → i < length old → i < length new
    → get_or old (length old - 1 - i) d ≡ get_or new (length new - 1 - i) d
    → same_end old new ≡ i + same_front (drop i (reverse old)) (drop i (reverse new))
    → same_end old new ≡ i + 1 + same_front (drop (i + 1) (reverse old)) (drop (i + 1) (reverse new))
end-more old new i d low low' here so =
    front-more (reverse old) (reverse new) i d (rw length-reverse low) (rw length-reverse low')
    (get_or-reverse old i d low ∙ here ∙ sym (get_or-reverse new i d low')) so

pub end-stops : (old new : List ℕ) (i d : ℕ) → i < length old → i < length new
    → (get_or old (length old - 1 - i) d ≡ get_or new (length new - 1 - i) d → ⊥)
    → same_end old new ≡ i + same_front (drop i (reverse old)) (drop i (reverse new)) → i ≡ same_end old new
end-stops old new i d low low' differ so =
    front-stops (reverse old) (reverse new) i d (rw length-reverse low) (rw length-reverse low')
    (λ here. differ (sym (get_or-reverse old i d low) ∙ here ∙ get_or-reverse new i d low')) so

pub end-ends : (old new : List ℕ) (i : ℕ) → (length old ≤ i) ⊎ (length new ≤ i)
    → same_end old new ≡ i + same_front (drop i (reverse old)) (drop i (reverse new)) → i ≡ same_end old new
end-ends old new i late so =
    front-ends (reverse old) (reverse new) i
    (elim late [ inl e ↦ inl (rw length-reverse e) | inr e ↦ inr (rw length-reverse e) ]) so

-- ---- what both begin and end with is the same

front-same : (old new : List ℕ) → take (same_front old new) old ≡ take (same_front old new) new
front-same [] [] = refl
front-same [] (n ∷ new) = refl
front-same (o ∷ old) [] = refl
front-same (o ∷ old) (n ∷ new) = by (o == n) (Decides-eqb o n).0 (front-same old new)
  where
    by : (same : Bool) → (same ≡ true → o ≡ n) → take (same_front old new) old ≡ take (same_front old new) new
        → take (cond same (1 + same_front old new) 0) (o ∷ old) ≡ take (cond same (1 + same_front old new) 0) (n ∷ new)
    by true is rest =
        let more : 1 + same_front old new ≡ suc (same_front old new) = omega arith in
        ap (λ k. take k (o ∷ old)) more ∙ ap₂ (λ b bs. b ∷ bs) (is refl) rest ∙ sym (ap (λ k. take k (n ∷ new)) more)
    by false is rest = refl

-- the last bytes of a text are the first of it from the end
end-taken : (text : List ℕ) (n : ℕ) → n ≤ length text
    → reverse (take n (reverse text)) ≡ drop (length text - n) text
end-taken text n low =
    let k = length text - n in
    let count : length (reverse (drop k text)) ≡ n =
    omega (arith, length-reverse (drop k text), length-drop k text) in
    ap (λ t. reverse (take n (reverse t))) (sym (take-append-drop k text))
    ∙ ap (λ t. reverse (take n t)) (reverse-append (take k text) (drop k text))
    ∙ ap (λ m. reverse (take m (reverse (drop k text) ++ reverse (take k text)))) (sym count)
    ∙ ap reverse (take-append_seam (reverse (drop k text)) (reverse (take k text)))
    ∙ reverse-reverse (drop k text)

end-same : (old new : List ℕ) → drop (length old - same_end old new) old ≡ drop (length new - same_end old new) new
end-same old new =
    let few = common_prefix_len-le nat_eq (reverse old) (reverse new) in
    sym (end-taken old (same_end old new) (omega (arith, few.0, length-reverse old)))
    ∙ ap reverse (front-same (reverse old) (reverse new))
    ∙ end-taken new (same_end old new) (omega (arith, few.1, length-reverse new))

-- with what differs, and what both begin and end with, the one is the other
pub difference-made : (old new : List ℕ) (front end : ℕ) → front ≡ same_front old new
    → end ≡ same_end (drop front old) (drop front new)
    → spliced old front (length (drop front old) - end) (take (length (drop front new) - end) (drop front new)) ≡ new
difference-made old new front end is behind =
    let few = common_prefix_len-le nat_eq old new in
    let last = common_prefix_len-le nat_eq (reverse (drop front old)) (reverse (drop front new)) in
    ap₂ (λ a b. a ++ take (length (drop front new) - end) (drop front new) ++ b)
    (ap (λ n. take n old) is ∙ front-same old new ∙ ap (λ n. take n new) (sym is))
    (sym (drop-drop (length (drop front old) - end) front old)
    ∙ ap (λ n. drop (length (drop front old) - n) (drop front old)) behind
    ∙ end-same (drop front old) (drop front new)
    ∙ ap (λ n. drop (length (drop front new) - n) (drop front new)) (sym behind))
    ∙ append_assoc (take front new) (take (length (drop front new) - end) (drop front new))
    (drop (length (drop front new) - end) (drop front new))
    ∙ ap (λ t. take front new ++ t) (take-append-drop (length (drop front new) - end) (drop front new))
    ∙ take-append-drop front new
