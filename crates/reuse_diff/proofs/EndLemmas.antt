-- How many elements at the start and at the end of a list pass a test.
use Rattle.std.proofs.Common.{◌≡◌, ℕ, ◌+◌, ◌-◌, ◌<◌, ◌≤◌, Bool, true, false, List, [], ◌∷◌, length, get_or, take, drop}
use Rattle.std.proofs.Common.{reverse, sym, ap, ◌∙◌, arith, inl, inr}
use Rattle.std.specs.List.{prefix_len, suffix_len}
use Rattle.std.proofs.lemmas.List.{length-reverse, get_or-reverse, get_or-take, get_or-drop, length-take-le}
use Rattle.std.proofs.lemmas.List.{length-drop, take_all}
use Rattle.std.proofs.lemmas.Bool.{cases_lt}
use Rattle.std.proofs.lemmas.List.Sums.{prefix_len_passes, prefix_len_stops, prefix_len_is, suffix_len_is}

-- the last ones pass
pub suffix_passes : {X : Type 0} (p : X → Bool) (xs : List X) (k : ℕ) (d : X) → length xs ≤ k + suffix_len p xs
    → k < length xs → p (get_or xs k d) ≡ true
suffix_passes p xs k d late low =
    let flip : length xs - 1 - k < length xs = omega arith in
    let back : length xs - 1 - (length xs - 1 - k) ≡ k = omega arith in
    let e = get_or-reverse xs (length xs - 1 - k) d flip ∙ ap (λ i. get_or xs i d) back in
    ap p (sym e) ∙ prefix_len_passes p (reverse xs) (length xs - 1 - k) d (omega arith)

-- and the one before them doesn't
pub suffix_stops : {X : Type 0} (p : X → Bool) (xs : List X) (d : X) → suffix_len p xs < length xs
    → p (get_or xs (length xs - 1 - suffix_len p xs) d) ≡ false
suffix_stops p xs d low =
    let e = get_or-reverse xs (suffix_len p xs) d low in
    ap p (sym e) ∙ prefix_len_stops p (reverse xs) d (rw length-reverse low)

-- an element that doesn't pass is before them
pub suffix_below : {X : Type 0} (p : X → Bool) (xs : List X) (k : ℕ) (d : X) → k < length xs → p (get_or xs k d) ≡ false
    → k + suffix_len p xs < length xs
suffix_below p xs k d low not = elim (cases_lt (k + suffix_len p xs) (length xs)) [
  | inl e ↦ e
  | inr late ↦ (let yes = suffix_passes p xs k d late low in cc)
]

-- where one doesn't pass, both ends are apart
pub ends_apart : {X : Type 0} (p : X → Bool) (xs : List X) → prefix_len p xs < length xs
    → prefix_len p xs + suffix_len p xs < length xs
ends_apart p [] low = omega arith
ends_apart p (x ∷ xs) low = suffix_below p (x ∷ xs) (prefix_len p (x ∷ xs)) x low (prefix_len_stops p (x ∷ xs) x low)

-- an element of a part of the list
pub part_at : {X : Type 0} (xs : List X) (a n k : ℕ) (d : X) → k < n
    → get_or (take n (drop a xs)) k d ≡ get_or xs (a + k) d
part_at xs a n k d low = get_or-take n (drop a xs) k d low ∙ get_or-drop a xs k d

pub length-part : {X : Type 0} (xs : List X) (a n : ℕ) → a + n ≤ length xs → length (take n (drop a xs)) ≡ n
length-part xs a n within = length-take-le n (drop a xs) (rw length-drop (omega arith))

-- of a part of the list that has all but some of its first and last elements that pass
pub prefix_len-part : {X : Type 0} (p : X → Bool) (xs : List X) (a n : ℕ) (d : X) → a ≤ prefix_len p xs
    → prefix_len p xs < a + n → a + n ≤ length xs
    → prefix_len p (take n (drop a xs)) ≡ prefix_len p xs - a
prefix_len-part p xs a n d low high within =
    let size = length-part xs a n within in
    let last : a + (prefix_len p xs - a) ≡ prefix_len p xs = omega arith in
    prefix_len_is p (take n (drop a xs)) (prefix_len p xs - a) d (omega arith)
    (λ k below. ap p (part_at xs a n k d (omega arith)) ∙ prefix_len_passes p xs (a + k) d (omega arith))
    (λ _. ap p (part_at xs a n (prefix_len p xs - a) d (omega arith) ∙ ap (λ i. get_or xs i d) last)
    ∙ prefix_len_stops p xs d (omega arith))

pub suffix_len-part : {X : Type 0} (p : X → Bool) (xs : List X) (a n : ℕ) (d : X) → a + suffix_len p xs < length xs
    → length xs ≤ a + n + suffix_len p xs → a + n ≤ length xs
    → suffix_len p (take n (drop a xs)) ≡ suffix_len p xs - (length xs - (a + n))
suffix_len-part p xs a n d low high within =
    let size = length-part xs a n within in
    let first = length xs - suffix_len p xs - a in
    let is = suffix_len_is p (take n (drop a xs)) first d (omega arith)
    (λ k from below. ap p (part_at xs a n k d (omega arith)) ∙ suffix_passes p xs (a + k) d (omega arith) (omega arith))
    (λ some. ap p (part_at xs a n (first - 1) d (omega arith)
    ∙ ap (λ i. get_or xs i d) (let e : a + (first - 1) ≡ length xs - 1 - suffix_len p xs = omega arith in e))
    ∙ suffix_stops p xs d (omega arith)) in
    is ∙ (let e : length (take n (drop a xs)) - first ≡ suffix_len p xs - (length xs - (a + n)) = omega arith in e)

-- behind the first ones that pass
pub suffix_len-behind : {X : Type 0} (p : X → Bool) (xs : List X) → prefix_len p xs < length xs
    → suffix_len p (drop (prefix_len p xs) xs) ≡ suffix_len p xs
suffix_len-behind p [] some = absurd (omega arith)
suffix_len-behind p (x ∷ xs) some =
    let a = prefix_len p (x ∷ xs) in
    let apart = ends_apart p (x ∷ xs) some in
    let n = length (x ∷ xs) - a in
    let all = take_all n (drop a (x ∷ xs)) (omega (arith, length-drop a (x ∷ xs))) in
    let part = suffix_len-part p (x ∷ xs) a n x (omega arith) (omega arith) (omega arith) in
    sym (ap (suffix_len p) all) ∙ part
    ∙ (let e : suffix_len p (x ∷ xs) - (length (x ∷ xs) - (a + n)) ≡ suffix_len p (x ∷ xs) = omega arith in e)
