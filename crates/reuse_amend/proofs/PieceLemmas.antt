-- The pieces of an expression, from one on, and what they become.
use Rattle.std.proofs.Common.{◌≡◌, ℕ, zero, suc, ◌+◌, ◌-◌, ◌<◌, ◌≤◌, Bool, true, false, List, [], ◌∷◌, ◌++◌, length}
use Rattle.std.proofs.Common.{take, drop, get_or, Option, Some, None, refl, sym, ap, ◌∙◌, arith, append_assoc, cond}
use Rattle.std.proofs.Common.{◌≢◌}
use Rattle.std.specs.Prelude.{◌||◌, ◌==◌}
use Rattle.std.specs.Option.{option_map, option_and_then}
use Rattle.std.specs.List.{list_any}
use Rattle.std.proofs.lemmas.Bool.{eqb-false}
use Rattle.std.proofs.lemmas.List.{append-nil, drop_all}
use Rattle.reuse_notice.specs.declared.expressions.Token.{Token}
use Rattle.reuse_amend.specs.declared.replacements.Replacement.{Replacement}
use Rattle.reuse_notice.specs.Expressions.{token_at, token_len, word_len, has_plus}
use Rattle.reuse_amend.specs.Pieces.{pieces_from, pieces_of, is_operator}
use Rattle.reuse_amend.specs.Amending.{is_behind_with, piece_replaced, pieces_replaced, licence_replaced}
use Rattle.reuse_amend.specs.Amending.{licence_amended, each_made}
use Rattle.reuse_notice.proofs.BlankLemmas.{drop_next}

pieces_from-skip : (skip : ℕ) (bytes : List ℕ) → pieces_from skip bytes ≡ pieces_from 0 (drop skip bytes)
unfolding pieces_from
pieces_from-skip zero bytes = refl
pieces_from-skip (suc skip) [] = refl
pieces_from-skip (suc skip) (b ∷ bytes) = pieces_from-skip skip bytes

pieces_from-cons : (b : ℕ) (bytes : List ℕ) → pieces_from 0 (b ∷ bytes)
    ≡ (take (token_len (b ∷ bytes)) (b ∷ bytes), token_at (b ∷ bytes)) ∷ pieces_from (token_len (b ∷ bytes) - 1) bytes
unfolding pieces_from
pieces_from-cons b bytes = refl

pub pieces-nil : pieces_of [] ≡ []
unfolding pieces_from
pieces-nil = refl

-- the first piece, and those behind its bytes
pub pieces-first : (bytes : List ℕ) (n : ℕ) → 0 < length bytes → 0 < n → n ≡ token_len bytes
    → pieces_of bytes ≡ (take n bytes, token_at bytes) ∷ pieces_of (drop n bytes)
pieces-first [] n low some is = absurd (omega arith)
pieces-first (b ∷ bytes) zero low some is = absurd (omega arith)
pieces-first (b ∷ bytes) (suc n) low some is =
    let less : suc n - 1 ≡ n = omega arith in
    pieces_from-cons b bytes
    ∙ ap (λ k. (take k (b ∷ bytes), token_at (b ∷ bytes)) ∷ pieces_from (k - 1) bytes) (sym is)
    ∙ ap (λ k. (take (suc n) (b ∷ bytes), token_at (b ∷ bytes)) ∷ pieces_from k bytes) less
    ∙ ap (λ ps. (take (suc n) (b ∷ bytes), token_at (b ∷ bytes)) ∷ ps) (pieces_from-skip n bytes)

-- ---- the search for an operator

abbrev operates : List (List ℕ × Token) → Bool
operates pieces = list_any (λ (p : List ℕ × Token). is_operator p.1) pieces

operates-first : (rest : List ℕ) (n : ℕ) → 0 < length rest → 0 < n → n ≡ token_len rest
    → operates (pieces_of rest) ≡ (is_operator (token_at rest) || operates (pieces_of (drop n rest)))
operates-first rest n low some is = ap operates (pieces-first rest n low some is)

pub operates-more : (rest : List ℕ) (n : ℕ) (r : Bool) → 0 < length rest → 0 < n → n ≡ token_len rest
    → is_operator (token_at rest) ≡ false → operates (pieces_of rest) ≡ r → operates (pieces_of (drop n rest)) ≡ r
operates-more rest n r low some is other so =
    sym (operates-first rest n low some is ∙ ap (λ b. b || operates (pieces_of (drop n rest))) other) ∙ so

pub token-some : (rest : List ℕ) → 0 < token_len rest
token-some rest = by (word_len rest == 0) (has_plus rest) refl
  where
    by : (empty plus : Bool) → (word_len rest == 0) ≡ empty
        → 0 < (cond empty 1 (cond plus (word_len rest + 1) (word_len rest)))
    by true plus e = omega arith
    by false true e = omega arith
    by false false e = let other : word_len rest ≢ 0 = eqb-false (word_len rest) 0 e in omega arith

pub operates-stop : (rest : List ℕ) (r : Bool) → 0 < length rest → is_operator (token_at rest) ≡ true
    → operates (pieces_of rest) ≡ r → true ≡ r
operates-stop rest r low found so = sym (operates-first rest (token_len rest) low (token-some rest) refl
    ∙ ap (λ b. b || operates (pieces_of (drop (token_len rest) rest))) found) ∙ so

pub operates-end : (rest : List ℕ) (r : Bool) → length rest ≡ 0 → operates (pieces_of rest) ≡ r → false ≡ r
operates-end [] r none so = ap operates (sym pieces-nil) ∙ so
operates-end (b ∷ rest) r none so = absurd (omega arith)

-- ---- the pieces replaced

replaced-cons : (r : Replacement) (behind : Bool) (p : List ℕ × Token) (pieces : List (List ℕ × Token))
    → pieces_replaced r behind (p ∷ pieces) ≡ piece_replaced r behind p.0 ++ pieces_replaced r
    (is_behind_with behind p.1) pieces
unfolding pieces_replaced
replaced-cons r behind p pieces = refl

pub replaced-nil : (r : Replacement) (behind : Bool) → pieces_replaced r behind [] ≡ []
unfolding pieces_replaced
replaced-nil r behind = refl

replaced-more : (r : Replacement) (behind : Bool) (rest done piece whole : List ℕ) (n : ℕ) → 0 < length rest → 0 < n
    → n ≡ token_len rest → piece ≡ piece_replaced r behind (take n rest)
    → done ++ pieces_replaced r behind (pieces_of rest) ≡ whole
    → (done ++ piece) ++ pieces_replaced r (is_behind_with behind (token_at rest)) (pieces_of (drop n rest)) ≡ whole
replaced-more r behind rest done piece whole n low some is by so =
    let tail = pieces_replaced r (is_behind_with behind (token_at rest)) (pieces_of (drop n rest)) in
    append_assoc done piece tail
    ∙ ap (λ xs. done ++ xs)
    (ap (λ p. p ++ tail) by ∙ sym (ap (pieces_replaced r behind) (pieces-first rest n low some is)
    ∙ replaced-cons r behind (take n rest, token_at rest) (pieces_of (drop n rest)))) ∙ so

pub replaced-step : (r : Replacement) (behind behind' : Bool) (rest rest' done done' piece whole : List ℕ)
    → 0 < length rest → 0 < token_len rest → piece ≡ piece_replaced r behind (take (token_len rest) rest)
    → behind' ≡ is_behind_with behind (token_at rest) → rest' ≡ drop (token_len rest) rest → done' ≡ done ++ piece
    → done ++ pieces_replaced r behind (pieces_of rest) ≡ whole
    → done' ++ pieces_replaced r behind' (pieces_of rest') ≡ whole
replaced-step r behind behind' rest rest' done done' piece whole low some by next left grown so =
    ap (λ xs. xs ++ pieces_replaced r behind' (pieces_of rest')) grown
    ∙ ap (λ b. (done ++ piece) ++ pieces_replaced r b (pieces_of rest')) next
    ∙ ap (λ xs. (done ++ piece) ++ pieces_replaced r (is_behind_with behind (token_at rest)) (pieces_of xs)) left
    ∙ replaced-more r behind rest done piece whole (token_len rest) low some refl by so

pub replaced-end : (r : Replacement) (behind : Bool) (rest done whole : List ℕ) → length rest ≡ 0
    → done ++ pieces_replaced r behind (pieces_of rest) ≡ whole → done ≡ whole
replaced-end r behind [] done whole none so = sym (append-nil done) ∙ ap (λ xs. done ++ xs)
    (sym (replaced-nil r behind)) ∙ ap (λ ps. done ++ pieces_replaced r behind ps) (sym pieces-nil) ∙ so
replaced-end r behind (b ∷ rest) done whole none so = absurd (omega arith)

-- ---- one replacement after the other

amended-cons : (r : Replacement) (rs : List Replacement) (value : List ℕ)
    → licence_amended (r ∷ rs) value ≡ option_and_then (licence_amended rs) (licence_replaced r value)
unfolding licence_amended
amended-cons r rs value = refl

pub amended-end : (rs : List Replacement) (i : ℕ) (value : List ℕ) (o : Option (List ℕ)) → length rs ≤ i
    → licence_amended (drop i rs) value ≡ o → o ≡ Some value
unfolding licence_amended
amended-end rs i value o high so = sym so ∙ ap (λ ys. licence_amended ys value) (drop_all i rs high)

amended-next : (rs : List Replacement) (i : ℕ) (d r : Replacement) (value : List ℕ) → i < length rs → r ≡ get_or rs i d
    → licence_amended (drop i rs) value ≡ option_and_then (licence_amended (drop (i + 1) rs)) (licence_replaced r value)
amended-next rs i d r value low is =
    ap (λ ys. licence_amended ys value) (drop_next rs i d low ∙ ap (λ x. x ∷ drop (i + 1) rs) (sym is))
    ∙ amended-cons r (drop (i + 1) rs) value

pub amended-more : (rs : List Replacement) (i : ℕ) (d r : Replacement) (value next : List ℕ) (o : Option (List ℕ))
    → i < length rs → r ≡ get_or rs i d → licence_replaced r value ≡ Some next
    → licence_amended (drop i rs) value ≡ o → licence_amended (drop (i + 1) rs) next ≡ o
amended-more rs i d r value next o low is made so =
    sym (amended-next rs i d r value low is ∙ ap (option_and_then (licence_amended (drop (i + 1) rs))) made) ∙ so

pub amended-stop : (rs : List Replacement) (i : ℕ) (d r : Replacement) (value : List ℕ) (o : Option (List ℕ))
    → i < length rs → r ≡ get_or rs i d → licence_replaced r value ≡ None
    → licence_amended (drop i rs) value ≡ o → o ≡ None
amended-stop rs i d r value o low is made so =
    sym so ∙ amended-next rs i d r value low is ∙ ap (option_and_then (licence_amended (drop (i + 1) rs))) made

-- ---- each text, as it becomes

module _ (f : List ℕ → Option (List ℕ)) where
  each-cons : (x : List ℕ) (xs : List (List ℕ))
      → each_made f (x ∷ xs) ≡ option_and_then (λ made. option_map (λ others. made ∷ others) (each_made f xs)) (f x)
  unfolding each_made
  each-cons x xs = refl

  each-next : (xs : List (List ℕ)) (i : ℕ) (d x : List ℕ) (o : Option (List ℕ)) → i < length xs
      → x ≡ get_or xs i d → f x ≡ o
      → each_made f (drop i xs) ≡ option_and_then
      (λ made. option_map (λ others. made ∷ others) (each_made f (drop (i + 1) xs))) o
  each-next xs i d x o low is made =
      ap (each_made f) (drop_next xs i d low ∙ ap (λ y. y ∷ drop (i + 1) xs) (sym is)) ∙ each-cons x (drop (i + 1) xs)
      ∙ ap (option_and_then (λ made. option_map (λ others. made ∷ others) (each_made f (drop (i + 1) xs)))) made

  pub each-init : (xs : List (List ℕ)) → option_map (λ others. [] ++ others) (each_made f xs) ≡ each_made f xs
  each-init xs = by (each_made f xs)
    where
      by : (o : Option (List (List ℕ))) → option_map (λ (others : List (List ℕ)). [] ++ others) o ≡ o
      by None = refl
      by (Some ys) = refl

  pub each-more : (xs : List (List ℕ)) (i : ℕ) (d x y : List ℕ) (done new : List (List ℕ)) (r : Option (List (List ℕ)))
      → i < length xs → x ≡ get_or xs i d → f x ≡ Some y → new ≡ done ++ y ∷ []
      → option_map (λ others. done ++ others) (each_made f (drop i xs)) ≡ r
      → option_map (λ others. new ++ others) (each_made f (drop (i + 1) xs)) ≡ r
  each-more xs i d x y done new r low is made grown so =
      ap (λ ys. option_map (λ others. ys ++ others) (each_made f (drop (i + 1) xs))) grown
      ∙ by (each_made f (drop (i + 1) xs))
      ∙ ap (option_map (λ others. done ++ others)) (sym (each-next xs i d x (Some y) low is made)) ∙ so
    where
      by : (o : Option (List (List ℕ))) → option_map (λ others. (done ++ y ∷ []) ++ others) o ≡ option_map
          (λ others. done ++ others) (option_map (λ others. y ∷ others) o)
      by None = refl
      by (Some ys) = ap (λ zs. Some zs) (append_assoc done (y ∷ []) ys)

  pub each-stop : (xs : List (List ℕ)) (i : ℕ) (d x : List ℕ) (done : List (List ℕ)) (r : Option (List (List ℕ)))
      → i < length xs → x ≡ get_or xs i d → f x ≡ None
      → option_map (λ others. done ++ others) (each_made f (drop i xs)) ≡ r → r ≡ None
  each-stop xs i d x done r low is made so =
      sym so ∙ ap (option_map (λ others. done ++ others)) (each-next xs i d x None low is made)

  pub each-end : (xs : List (List ℕ)) (i : ℕ) (done : List (List ℕ)) (r : Option (List (List ℕ))) → length xs ≤ i
      → option_map (λ others. done ++ others) (each_made f (drop i xs)) ≡ r → r ≡ Some done
  unfolding each_made
  each-end xs i done r high so =
      sym so ∙ ap (λ ys. option_map (λ others. done ++ others) (each_made f ys)) (drop_all i xs high)
      ∙ ap (λ ys. Some ys) (append-nil done)
