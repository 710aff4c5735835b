-- A loop that looks for each number among those before it.
use Rattle.std.proofs.Common.{◌≡◌, ◌≢◌, ℕ, ◌+◌, ◌<◌, true, false, eqb, List, length, get_or, take, sym, ◌∙◌, subst}
use Rattle.std.proofs.Common.{arith}
use Rattle.std.specs.List.{AllPairs, AllWithin, HoldsAt}
use Rattle.std.proofs.lemmas.Bool.{false≢true}
use Rattle.std.proofs.lemmas.Bool.Decides.{Decides-eqb}
use Rattle.std.proofs.lemmas.List.{take_more, get_or-take, length-take-le}
use Rattle.std.proofs.lemmas.List.Quantifiers.{all_pairs_push}

pub distinct_more : (xs : List ℕ) (i : ℕ) → i < length xs → AllPairs (λ m n. m ≢ n) (take i xs) → AllWithin
    (λ y. eqb y (get_or xs i 0) ≡ false) (take i xs) 0 (length (take i xs)) → AllPairs (λ m n. m ≢ n) (take (i + 1) xs)
distinct_more xs i within pairs fresh =
    rw (take_more xs i 0 within)
    (all_pairs_push (λ m n. m ≢ n) (take i xs) (get_or xs i 0) pairs (λ k d below same.
    false≢true (sym (fresh k d (omega arith) below) ∙ (Decides-eqb _ _).1 same)))

pub not_distinct : (xs : List ℕ) (i k : ℕ) → i < length xs → k < length (take i xs)
    → HoldsAt (λ y. eqb y (get_or xs i 0) ≡ true) (take i xs) k → AllPairs (λ m n. m ≢ n) xs → ⊥
not_distinct xs i k within below here pairs =
    let len = length-take-le i xs (omega arith) in
    let before : k < i = omega arith in
    pairs k i 0 before within
    (subst (λ m. m ≡ get_or xs i 0) (get_or-take i xs k 0 before) ((Decides-eqb _ _).0 (here 0)))
