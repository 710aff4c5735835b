-- The years of a value are the longest that fit.
use Rattle.std.proofs.Common.{◌≡◌, ℕ, ◌+◌, ◌<◌, ◌≤◌, Bool, true, false, cond, List, length, take, drop, nat_eq, Option}
use Rattle.std.proofs.Common.{Some, None, refl, sym, ap, ◌∙◌, subst, arith, inl, inr, ◌⊎◌, codes}
use Rattle.std.specs.Prelude.{◌==◌, ◌&&◌, nat_lt, not, slice_index}
use Rattle.std.specs.List.{starts_with}
use Rattle.std.proofs.lemmas.Bool.{eqb-true, ltb-true}
use Rattle.std.proofs.lemmas.List.{length-take}
use Rattle.reuse_notice.specs.declared.tags.Years.{Years}
use Rattle.reuse_notice.specs.Tags.{is_blank, all_blank, year_of, years_between, years_written, years_in, years_or}
use Rattle.reuse_notice.specs.Tags.{years_front}
use Rattle.reuse_notice.proofs.PlainLemmas.{and-parts}

-- years are written in four, nine or eleven bytes
abbrev IsYearsLength : ℕ → Type 0
IsYearsLength n = (n ≡ 4) ⊎ ((n ≡ 9) ⊎ (n ≡ 11))

written_length : (text : List ℕ) (years : Years) → years_written text ≡ Some years → IsYearsLength (length text)
written_length text years e = by_four (length text == 4) refl e
  where
    by_eleven : (b : Bool) → (length text == 11 && starts_with nat_eq (drop 4 text) (codes " - ")) ≡ b → cond b
        (years_between (year_of (take 4 text)) (year_of (drop 7 text))) None ≡ Some years → IsYearsLength (length text)
    by_eleven false is e = absurd (cc e)
    by_eleven true is e = inr (inr (eqb-true (length text) 11
        (and-parts (length text == 11) (starts_with nat_eq (drop 4 text) (codes " - ")) is).0))

    by_nine : (b : Bool) → (length text == 9 && starts_with nat_eq (drop 4 text) (codes "-")) ≡ b
        → cond b (years_between (year_of (take 4 text)) (year_of (drop 5 text)))
        (cond (length text == 11 && starts_with nat_eq (drop 4 text) (codes " - "))
        (years_between (year_of (take 4 text)) (year_of (drop 7 text))) None) ≡ Some years → IsYearsLength (length text)
    by_nine true is e = inr (inl
        (eqb-true (length text) 9 (and-parts (length text == 9) (starts_with nat_eq (drop 4 text) (codes "-")) is).0))
    by_nine false is e = by_eleven (length text == 11 && starts_with nat_eq (drop 4 text) (codes " - ")) refl e

    by_four : (b : Bool) → (length text == 4) ≡ b
        → cond b (years_between (year_of text) (year_of text))
        (cond (length text == 9 && starts_with nat_eq (drop 4 text) (codes "-"))
        (years_between (year_of (take 4 text)) (year_of (drop 5 text)))
        (cond (length text == 11 && starts_with nat_eq (drop 4 text) (codes " - "))
        (years_between (year_of (take 4 text)) (year_of (drop 7 text))) None)) ≡ Some years
        → IsYearsLength (length text)
    by_four true is e = inl (eqb-true (length text) 4 is)
    by_four false is e = by_nine (length text == 9 && starts_with nat_eq (drop 4 text) (codes "-")) refl e

years_length : (n : ℕ) (value : List ℕ) (years : Years) → years_in n value ≡ Some years → IsYearsLength n
years_length n value years e =
    by_test ((nat_lt n (length value) && is_blank (slice_index value n)) && not (all_blank (drop (n + 1) value))) refl e
  where
    by_test : (b : Bool)
        → ((nat_lt n (length value) && is_blank (slice_index value n)) && not (all_blank (drop (n + 1) value))) ≡ b
        → cond b (years_written (take n value)) None ≡ Some years → IsYearsLength n
    by_test false is e = absurd (cc e)
    by_test true is e =
        let outer = and-parts (nat_lt n (length value) && is_blank (slice_index value n))
        (not (all_blank (drop (n + 1) value))) is in
        let inner = and-parts (nat_lt n (length value)) (is_blank (slice_index value n)) outer.0 in
        let low : n < length value = ltb-true n (length value) inner.0 in
        let size : length (take n value) ≡ n = simp length-take (omega (arith, low)) in
        subst IsYearsLength size (written_length (take n value) years e)

-- what is found first, of the eleven, nine and four bytes
module _ (value : List ℕ) where
  abbrev chosen : Option Years → Option Years → Option Years → Option Years × ℕ
  chosen of_eleven of_nine of_four = years_or of_eleven 11 (years_or of_nine 9 (years_or of_four 4 (None, 0)))

  fits : (of_eleven of_nine of_four : Option Years) → years_in 11 value ≡ of_eleven → years_in 9 value ≡ of_nine
      → years_in 4 value ≡ of_four → (years : Years)
      → (chosen of_eleven of_nine of_four).0 ≡ Some years
      → years_in (chosen of_eleven of_nine of_four).1 value ≡ Some years
  fits (Some y) of_nine of_four a b c years e = a ∙ e
  fits None (Some y) of_four a b c years e = b ∙ e
  fits None None (Some y) a b c years e = c ∙ e
  fits None None None a b c years e = absurd (cc e)

  longest : (of_eleven of_nine of_four : Option Years) → years_in 11 value ≡ of_eleven → years_in 9 value ≡ of_nine
      → years_in 4 value ≡ of_four → (n : ℕ) (years : Years)
      → years_in n value ≡ Some years → IsYearsLength n → n ≤ (chosen of_eleven of_nine of_four).1
  longest (Some y) of_nine of_four a b c n years e (inl k) = omega arith
  longest (Some y) of_nine of_four a b c n years e (inr (inl k)) = omega arith
  longest (Some y) of_nine of_four a b c n years e (inr (inr k)) = omega arith
  longest None (Some y) of_four a b c n years e (inl k) = omega arith
  longest None (Some y) of_four a b c n years e (inr (inl k)) = omega arith
  longest None (Some y) of_four a b c n years e (inr (inr k)) =
      absurd (let f = sym a ∙ ap (λ (m : ℕ). years_in m value) (sym k) ∙ e in cc f)
  longest None None (Some y) a b c n years e (inl k) = omega arith
  longest None None (Some y) a b c n years e (inr (inl k)) =
      absurd (let f = sym b ∙ ap (λ (m : ℕ). years_in m value) (sym k) ∙ e in cc f)
  longest None None (Some y) a b c n years e (inr (inr k)) =
      absurd (let f = sym a ∙ ap (λ (m : ℕ). years_in m value) (sym k) ∙ e in cc f)
  longest None None None a b c n years e (inl k) =
      absurd (let f = sym c ∙ ap (λ (m : ℕ). years_in m value) (sym k) ∙ e in cc f)
  longest None None None a b c n years e (inr (inl k)) =
      absurd (let f = sym b ∙ ap (λ (m : ℕ). years_in m value) (sym k) ∙ e in cc f)
  longest None None None a b c n years e (inr (inr k)) =
      absurd (let f = sym a ∙ ap (λ (m : ℕ). years_in m value) (sym k) ∙ e in cc f)

  none : (of_eleven of_nine of_four : Option Years) → (chosen of_eleven of_nine of_four).0 ≡ None
      → (chosen of_eleven of_nine of_four).1 ≡ 0
  none (Some y) of_nine of_four e = absurd (cc e)
  none None (Some y) of_four e = absurd (cc e)
  none None None (Some y) e = absurd (cc e)
  none None None None e = refl

pub years_fit : (value : List ℕ) (years : Years) → (years_front value).0 ≡ Some years
    → years_in (years_front value).1 value ≡ Some years
years_fit value years e = fits value (years_in 11 value) (years_in 9 value) (years_in 4 value) refl refl refl years e

pub longest_fit : (value : List ℕ) (n : ℕ) (years : Years) → years_in n value ≡ Some years → n ≤ (years_front value).1
longest_fit value n years e = longest value (years_in 11 value) (years_in 9 value)
    (years_in 4 value) refl refl refl n years e (years_length n value years e)

pub none_fit : (value : List ℕ) (n : ℕ) → (years_front value).0 ≡ None → years_in n value ≡ None
none_fit value n e = by (years_in n value) refl
  where
    some_length : (m : ℕ) → IsYearsLength m → m ≤ 0 → ⊥
    some_length m (inl k) low = omega arith
    some_length m (inr (inl k)) low = omega arith
    some_length m (inr (inr k)) low = omega arith

    by : (o : Option Years) → years_in n value ≡ o → o ≡ None
    by None is = refl
    by (Some years) is =
        let zero = none value (years_in 11 value) (years_in 9 value) (years_in 4 value) e in
        let low : n ≤ 0 = subst (λ (k : ℕ). n ≤ k) zero (longest_fit value n years is) in
        absurd (some_length n (years_length n value years is) low)
