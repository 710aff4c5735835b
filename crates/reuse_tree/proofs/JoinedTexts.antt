-- Texts with commas between: their length, and that they are UTF-8.
use Rattle.std.proofs.Common.{◌≡◌, ℕ, ◌+◌, ◌*◌, ◌<◌, ◌≤◌, List, [], ◌∷◌, ◌++◌, length, map, take, get_or, codes, refl}
use Rattle.std.proofs.Common.{sym, ap, ◌∙◌, arith, append_assoc, length-append}
use Rattle.std.specs.Prelude.{sum_by, IsUtf8}
use Rattle.std.specs.List.{AllByRecursion, join_with_byte}
use Rattle.std.proofs.lemmas.List.{length-map, length-take, map_more}
use Rattle.std.proofs.lemmas.List.Sums.{sum_by-cons}
use Rattle.std.proofs.lemmas.Str.{IsUtf8-append, IsUtf8-nil}
use Rattle.json.proofs.Printed.Utf8.{IsUtf8-are_ascii}
use Rattle.reuse_json.specs.EntryText.{comma_before}

-- a text of UTF-8 behind another
infixl 10 ◌⊹◌
pub ◌⊹◌ : {a b : List ℕ} → IsUtf8 a → IsUtf8 b → IsUtf8 (a ++ b)
x ⊹ y = IsUtf8-append _ _ x y

module _ {A : Type 0} (text : A → List ℕ) where
  -- each text with its comma is no longer than its size
  pub length-join-le : (size : A → ℕ) (xs : List A) → AllByRecursion (λ x. length (text x) + 1 ≤ size x) xs
      → length (join_with_byte 44 (map text xs)) ≤ sum_by size xs
  length-join-le size [] h = omega arith
  length-join-le size (x ∷ []) h = omega (arith, sum_by-cons size x [], h.0)
  length-join-le size (x ∷ y ∷ xs) h =
      omega (
        arith,
        sum_by-cons size x (y ∷ xs),
        h.0,
        length-append (text x) (44 ∷ join_with_byte 44 (map text (y ∷ xs))),
        length-join-le size (y ∷ xs) h.1,
      )

  pub IsUtf8-join : (xs : List A) → AllByRecursion (λ x. IsUtf8 (text x)) xs → IsUtf8 (join_with_byte 44 (map text xs))
  IsUtf8-join [] h = IsUtf8-nil
  IsUtf8-join (x ∷ []) h = h.0
  IsUtf8-join (x ∷ y ∷ xs) h = IsUtf8-append (text x) _ h.0
      (IsUtf8-append (44 ∷ []) _ (IsUtf8-are_ascii (44 ∷ []) refl) (IsUtf8-join (y ∷ xs) h.1))

pub sum_by-constant : {A : Type 0} (n : ℕ) (xs : List A) → sum_by (λ _. n) xs ≡ n * length xs
sum_by-constant n [] = omega arith
sum_by-constant n (x ∷ xs) = omega (arith, sum_by-cons (λ _. n) x xs, sum_by-constant n xs)

pub AllByRecursion-weaker : {A : Type 0} (P Q : A → Type 0) → ((x : A) → P x → Q x) → (xs : List A)
    → AllByRecursion P xs → AllByRecursion Q xs
AllByRecursion-weaker P Q f [] h = tt
AllByRecursion-weaker P Q f (x ∷ xs) h = (f x h.0, AllByRecursion-weaker P Q f xs h.1)

-- one text more
pub join-snoc : (pieces : List (List ℕ)) (x : List ℕ)
    → join_with_byte 44 (pieces ++ x ∷ []) ≡ join_with_byte 44 pieces ++ (comma_before (length pieces) ++ x)
join-snoc [] x = refl
join-snoc (y ∷ []) x = refl
join-snoc (y ∷ z ∷ pieces) x =
    ap (λ (l : List ℕ). y ++ (44 ∷ l)) (join-snoc (z ∷ pieces) x)
    ∙ sym (append_assoc y (44 ∷ join_with_byte 44 (z ∷ pieces)) (codes "," ++ x))

pub join-map-more : {A : Type 0} (text : A → List ℕ) (xs : List A) (i : ℕ) (d : A) → i < length xs
    → join_with_byte 44 (map text (take (i + 1) xs)) ≡ join_with_byte 44
    (map text (take i xs)) ++ (comma_before i ++ text (get_or xs i d))
join-map-more text xs i d within =
    let size : length (map text (take i xs)) ≡ i = omega (arith, length-map (take i xs) text, length-take i xs) in
    ap (join_with_byte 44) (map_more text xs i d within)
    ∙ join-snoc (map text (take i xs)) (text (get_or xs i d))
    ∙ ap (λ (n : ℕ). join_with_byte 44 (map text (take i xs)) ++ (comma_before n ++ text (get_or xs i d))) size
