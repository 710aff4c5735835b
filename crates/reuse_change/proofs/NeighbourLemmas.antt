-- A neighbour's path is a good one, unless it is too long.
use Rattle.std.proofs.Common.{◌≡◌, ℕ, ◌<◌, ◌≤◌, Bool, true, false, cond, not, ◌&&◌, ◌==◌, nat_lt, nat_le, List, [], ◌∷◌}
use Rattle.std.proofs.Common.{◌++◌, codes, length, refl, ap, ◌∙◌, arith, length-append}
use Rattle.std.specs.List.{list_all, slice_split, onto_first}
use Rattle.std.specs.Str.{bytes_eq}
use Rattle.std.proofs.lemmas.Bool.{and_parts, and_from}
use Rattle.std.proofs.lemmas.Bool.Decides.{nat_tests}
use Rattle.std.proofs.lemmas.List.Folds.{list_all-append}
use Rattle.std.proofs.lemmas.Slice.Eq.{bytes_eq-Decides}
use Rattle.reuse_change.specs.Path.{is_path, is_part, has_no_nul, has_good_parts}

abbrev is_slash : ℕ → Bool
is_slash byte = byte == 47

-- the end behind the last of some parts
abbrev with_end : List ℕ → List (List ℕ) → List (List ℕ)
with_end end [] = []
with_end end (part ∷ []) = (part ++ end) ∷ []
with_end end (part ∷ next ∷ parts) = part ∷ with_end end (next ∷ parts)

-- there is a part
abbrev HasPart : List (List ℕ) → Type 0
HasPart [] = ⊥
HasPart (part ∷ parts) = Unit {0}

some_part : (b : Bool) (x : ℕ) (parts : List (List ℕ)) → HasPart parts
    → HasPart (cond b ([] ∷ parts) (onto_first x parts))
some_part true x parts h = tt
some_part false x [] h = absurd h
some_part false x (part ∷ parts) h = tt

split_has : (xs : List ℕ) → HasPart (slice_split is_slash xs)
split_has [] = tt
split_has (x ∷ xs) = some_part (is_slash x) x (slice_split is_slash xs) (split_has xs)

onto_with : (end : List ℕ) (x : ℕ) (parts : List (List ℕ)) → HasPart parts
    → onto_first x (with_end end parts) ≡ with_end end (onto_first x parts)
onto_with end x [] h = absurd h
onto_with end x (part ∷ []) h = refl
onto_with end x (part ∷ next ∷ parts) h = refl

behind_with : (end : List ℕ) (parts : List (List ℕ)) → HasPart parts
    → [] ∷ with_end end parts ≡ with_end end ([] ∷ parts)
behind_with end [] h = absurd h
behind_with end (part ∷ parts) h = refl

-- an end without a slash goes to the last part
split_end : (end : List ℕ) → slice_split is_slash end ≡ end ∷ [] → (xs : List ℕ)
    → slice_split is_slash (xs ++ end) ≡ with_end end (slice_split is_slash xs)
split_end end alone [] = alone
split_end end alone (x ∷ xs) =
    ap (λ ps. cond (is_slash x) ([] ∷ ps) (onto_first x ps)) (split_end end alone xs)
    ∙ of_test (is_slash x) (slice_split is_slash xs) (split_has xs)
  where
    of_test : (b : Bool) (parts : List (List ℕ)) → HasPart parts → cond b ([] ∷ with_end end parts)
        (onto_first x (with_end end parts)) ≡ with_end end (cond b ([] ∷ parts) (onto_first x parts))
    of_test true parts h = behind_with end parts h
    of_test false parts h = onto_with end x parts h

not_equal : (xs ys : List ℕ) → length ys < length xs → bytes_eq xs ys ≡ false
not_equal xs ys h = of_test (bytes_eq xs ys) refl
  where
    of_test : (b : Bool) → bytes_eq xs ys ≡ b → b ≡ false
    of_test false e = refl
    of_test true e = let same = ap length ((bytes_eq-Decides xs ys).0 e) in absurd (omega (arith, h, same))

not_zero : (n : ℕ) → 0 < n → (n == 0) ≡ false
not_zero n h = grind (arith, nat_tests)

-- a part of more than two bytes
long_part : (part : List ℕ) → 2 < length part → is_part part ≡ true
long_part part h =
    and_from _ _ (and_from _ _ (ap not (not_zero (length part) (omega (arith, h))))
    (ap not (not_equal part (codes ".") (omega (arith, h))))) (ap not (not_equal part (codes "..") (omega (arith, h))))

good_end : (end : List ℕ) (parts : List (List ℕ)) → 2 < length end → list_all is_part parts ≡ true
    → list_all is_part (with_end end parts) ≡ true
good_end end [] h all = refl
good_end end (part ∷ []) h all = and_from _ _ (long_part (part ++ end) (omega (arith, h, length-append part end))) refl
good_end end (part ∷ next ∷ parts) h all =
    let both = and_parts (is_part part) (list_all is_part (next ∷ parts)) all in
    and_from _ _ both.0 (good_end end (next ∷ parts) h both.1)

abbrev ending : List ℕ
ending = codes ".license"

some_bytes : (n : ℕ) → 0 < n → nat_lt 0 n ≡ true
some_bytes n h = grind (arith, nat_tests)

few_bytes : (n m : ℕ) → n ≤ m → nat_le n m ≡ true
few_bytes n m h = grind (arith, nat_tests)

pub good_neighbour : (path : List ℕ) → is_path path ≡ true → length (path ++ ending) ≤ 4096
    → is_path (path ++ ending) ≡ true
good_neighbour path good short =
    let first =
    and_parts (nat_lt 0 (length path) && nat_le (length path) 4096 && has_no_nul path) (has_good_parts path) good in
    let second = and_parts (nat_lt 0 (length path) && nat_le (length path) 4096) (has_no_nul path) first.0 in
    and_from _ _
    (and_from _ _
    (and_from _ _ (some_bytes (length (path ++ ending)) (omega (arith, length-append path ending)))
    (few_bytes (length (path ++ ending)) 4096 short))
    (list_all-append (λ byte. not (byte == 0)) path ending ∙ and_from _ _ second.1 refl))
    (ap (list_all is_part) (split_end ending refl path)
    ∙ good_end ending (slice_split is_slash path) (omega arith) first.1)
