-- A notice that is written is read with its prefix, its years and its holder, if the holder might not be misread.
use Rattle.std.proofs.Common.{◌≡◌, ℕ, zero, suc, ◌+◌, ◌-◌, ◌*◌, ◌/◌, ◌%◌, ◌<◌, ◌≤◌, nat_eq, Bool, true, false, cond}
use Rattle.std.proofs.Common.{List, [], ◌∷◌, ◌++◌, length, take, drop, Option, Some, None, refl, sym, ap, ◌∙◌, arith}
use Rattle.std.proofs.Common.{append_assoc, inl, inr, ◌⊎◌}
use Rattle.std.specs.Prelude.{not, ◌&&◌, ◌==◌, nat_lt, codes}
use Rattle.std.specs.Option.{option_map}
use Rattle.std.specs.Char.{is_ascii_digit}
use Rattle.std.specs.List.{list_all, list_any, starts_with}
use Rattle.std.specs.Str.{bytes_eq}
use Rattle.std.proofs.Math.Seq.{drop-append_seam}
use Rattle.std.proofs.lemmas.Bool.{false≢true, or_parts, lt-ltb, le-leb, eqb-true, eq-eqb, cases_Bool as truth}
use Rattle.std.proofs.lemmas.Bool.Decides.{nat_tests}
use Rattle.reuse_notice.specs.declared.prefixes.Prefix.{Prefix}
use Rattle.reuse_notice.specs.declared.prefixes.Prefix.TheVariants.{Spdx, SpdxC, SpdxSymbol, SpdxString, SpdxStringC}
use Rattle.reuse_notice.specs.declared.prefixes.Prefix.TheVariants.{SpdxStringSymbol, String, StringC, StringSymbol}
use Rattle.reuse_notice.specs.declared.prefixes.Prefix.TheVariants.{Symbol}
use Rattle.reuse_notice.specs.declared.tags.Years.{Years}
use Rattle.reuse_notice.specs.Prefixes.{copyright_sign, prefix_text}
use Rattle.reuse_notice.specs.Tags.{is_blank, all_blank, drop_front, trimmed, prefix_of, year_of, years_between}
use Rattle.reuse_notice.specs.Tags.{years_written, years_in, years_or, years_front, notice_behind, notice_of}
use Rattle.reuse_notice.specs.Adding.{four_digits, notice_written}
use Rattle.reuse_notice.specs.Merging.{says, same_years}
use Rattle.reuse_amend.specs.Settled.{may_be_misread, CanBeWritten}
use Rattle.reuse_amend.proofs.UnnamedLemmas.{own_text}
use Rattle.reuse_notice.proofs.PlainLemmas.{drop_front-kept}

-- ---- the prefix

-- what stands behind a prefix and a space goes on to no longer one
pub record IsApart (rest : List ℕ) : Type 0 where
  c : starts_with nat_eq rest (codes "(C)") ≡ false
  word : starts_with nat_eq rest (codes "Copyright") ≡ false
  sign : starts_with nat_eq rest copyright_sign ≡ false
  some : all_blank rest ≡ false

no_longer : (xs lead more : List ℕ) → starts_with nat_eq xs lead ≡ false → starts_with nat_eq xs (lead ++ more) ≡ false
no_longer xs [] more e = absurd (false≢true (sym e))
no_longer [] (b ∷ lead) more e = refl
no_longer (x ∷ xs) (b ∷ lead) more e = by (nat_eq b x) e (λ k. no_longer xs lead more k)
  where
    by : (t : Bool) → (t && starts_with nat_eq xs lead) ≡ false
        → (starts_with nat_eq xs lead ≡ false → starts_with nat_eq xs (lead ++ more) ≡ false)
        → (t && starts_with nat_eq xs (lead ++ more)) ≡ false
    by true e' again = again e'
    by false e' again = refl

pub found : (prefix : Prefix) (rest : List ℕ) → IsApart rest → prefix_of (prefix_text prefix ++ 32 ∷ rest) ≡ Some prefix
found SpdxStringC rest h = let some = h.some in rw some refl
found SpdxStringSymbol rest h = let some = h.some in rw some refl
found SpdxString rest h = let c = h.c in let sign = h.sign in let some = h.some in rw (c, sign, some) refl
found SpdxC rest h = let some = h.some in rw some refl
found SpdxSymbol rest h = let some = h.some in rw some refl
found Spdx rest h =
    let first = no_longer rest (codes "Copyright") (codes " (C)") h.word in
    let second = no_longer rest (codes "Copyright") (32 ∷ copyright_sign) h.word in
    let word = h.word in
    let c = h.c in
    let sign = h.sign in
    let some = h.some in
    rw (first, second, word, c, sign, some) refl
found StringC rest h = let some = h.some in rw some refl
found StringSymbol rest h = let some = h.some in rw some refl
found String rest h = let c = h.c in let sign = h.sign in let some = h.some in rw (c, sign, some) refl
found Symbol rest h = let some = h.some in rw some refl

-- ---- the years

-- a byte that is no digit begins no year
pub no_year : (b : ℕ) (bytes : List ℕ) → is_ascii_digit b ≡ false → year_of (b ∷ bytes) ≡ None
no_year b [] e = refl
no_year b (c ∷ []) e = refl
no_year b (c ∷ d ∷ []) e = refl
no_year b (c ∷ d ∷ f ∷ []) e =
    ap (λ t. cond (t && list_all is_ascii_digit (c ∷ d ∷ f ∷ []))
    (Some ((b - 48) * 1000 + (c - 48) * 100 + (d - 48) * 10 + (f - 48))) None) e
no_year b (c ∷ d ∷ f ∷ g ∷ bytes) e = refl

-- nor years
no_years : (b : ℕ) (bytes : List ℕ) → is_ascii_digit b ≡ false → years_written (b ∷ bytes) ≡ None
no_years b bytes e =
    by (length (b ∷ bytes) == 4) (length (b ∷ bytes) == 9 && starts_with nat_eq (drop 4 (b ∷ bytes)) (codes "-"))
    (length (b ∷ bytes) == 11 && starts_with nat_eq (drop 4 (b ∷ bytes)) (codes " - "))
  where
    none : (o p : Option ℕ) → o ≡ None → years_between o p ≡ None
    none o p is = ap (λ q. years_between q p) is ∙ between p
      where
        between : (q : Option ℕ) → years_between None q ≡ None
        between None = refl
        between (Some year) = refl

    by : (four nine eleven : Bool)
        → cond four (years_between (year_of (b ∷ bytes)) (year_of (b ∷ bytes)))
        (cond nine (years_between (year_of (take 4 (b ∷ bytes))) (year_of (drop 5 (b ∷ bytes))))
        (cond eleven (years_between (year_of (take 4 (b ∷ bytes))) (year_of (drop 7 (b ∷ bytes)))) None)) ≡ None
    by true nine eleven = none (year_of (b ∷ bytes)) (year_of (b ∷ bytes)) (no_year b bytes e)
    by false true eleven =
        none (year_of (take 4 (b ∷ bytes))) (year_of (drop 5 (b ∷ bytes))) (no_year b (take 3 bytes) e)
    by false false true =
        none (year_of (take 4 (b ∷ bytes))) (year_of (drop 7 (b ∷ bytes))) (no_year b (take 3 bytes) e)
    by false false false = refl

unless : (t : Bool) (o : Option Years) → o ≡ None → cond t o None ≡ None
unless true o e = e
unless false o e = refl

no_front : (b : ℕ) (bytes : List ℕ) → is_ascii_digit b ≡ false → years_front (b ∷ bytes) ≡ (None, 0)
no_front b bytes e =
    ap (λ o. years_or o 11 (years_or (years_in 9 value) 9 (years_or (years_in 4 value) 4 (None, 0))))
    (unless _ _ (no_years b (take 10 bytes) e))
    ∙ ap (λ o. years_or o 9 (years_or (years_in 4 value) 4 (None, 0))) (unless _ _ (no_years b (take 8 bytes) e))
    ∙ ap (λ o. years_or o 4 (None, 0)) (unless _ _ (no_years b (take 3 bytes) e))
  where
    value : List ℕ
    value = b ∷ bytes

a_digit : (n : ℕ) → n ≤ 9 → is_ascii_digit (48 + n) ≡ true
a_digit n low = grind (arith, nat_tests)

-- four digits are read as the number that they write
pub year_again : (n : ℕ) → n ≤ 9999 → year_of (four_digits n) ≡ Some n
year_again n low =
    let a = a_digit (n / 1000) (omega arith) in
    let b = a_digit (n / 100 % 10) (omega arith) in
    let c = a_digit (n / 10 % 10) (omega arith) in
    let d = a_digit (n % 10) (omega arith) in
    ap (λ t. cond (t && list_all is_ascii_digit ((48 + n / 100 % 10) ∷ (48 + n / 10 % 10) ∷ (48 + n % 10) ∷ []))
    (Some (number n)) None) a
    ∙ ap (λ t. cond (t && list_all is_ascii_digit ((48 + n / 10 % 10) ∷ (48 + n % 10) ∷ [])) (Some (number n)) None) b
    ∙ ap (λ t. cond (t && list_all is_ascii_digit ((48 + n % 10) ∷ [])) (Some (number n)) None) c
    ∙ ap (λ t. cond (t && true) (Some (number n)) None) d
    ∙ ap (λ (m : ℕ). Some m) (same n low)
  where
    number : ℕ → ℕ
    number m =
        (48 + m / 1000 - 48) * 1000 + (48 + m / 100 % 10 - 48) * 100 + (48 + m / 10 % 10 - 48) * 10 + (48 + m % 10 - 48)

    same : (m : ℕ) → m ≤ 9999
        → (48 + m / 1000 - 48) * 1000 + (48 + m / 100 % 10 - 48) * 100 + (48 + m / 10 % 10 - 48) * 10 +
        (48 + m % 10 - 48) ≡ m
    same m low = omega arith

between_again : (low high : ℕ) → low ≤ high
    → years_between (Some low) (Some high) ≡ Some (record { low = low; high = high })
between_again low high e = ap (λ t. cond t (Some (record { low = low; high = high })) None) (le-leb low high e)

-- two years with a space, a minus and a space between them
two_years : (low high : ℕ) → low ≤ high → high ≤ 9999
    → years_written (four_digits low ++ codes " - " ++ four_digits high) ≡ Some (record { low = low; high = high })
two_years low high order short =
    ap (λ o. years_between o (year_of (four_digits high))) (year_again low (omega arith))
    ∙ ap (years_between (Some low)) (year_again high short) ∙ between_again low high order

one_year : (year : ℕ) → year ≤ 9999 → years_written (four_digits year) ≡ Some (record { low = year; high = year })
one_year year short = ap (λ o. years_between o o) (year_again year short) ∙ between_again year year (omega arith)

long : (n : ℕ) (xs : List ℕ) → n < length xs → nat_lt n (length xs) ≡ true
long n xs low = lt-ltb n (length xs) low

-- years stand in front of a space and more than blank bytes
front_two : (low high : ℕ) (holder : List ℕ) → low ≤ high → high ≤ 9999 → all_blank holder ≡ false
    → years_front ((four_digits low ++ codes " - " ++ four_digits high) ++ 32 ∷ holder)
    ≡ (Some (record { low = low; high = high }), 11)
front_two low high holder order short some =
    let value = (four_digits low ++ codes " - " ++ four_digits high) ++ 32 ∷ holder in
    let years : Option Years = years_written (four_digits low ++ codes " - " ++ four_digits high) in
    let rest = years_or (years_in 9 value) 9 (years_or (years_in 4 value) 4 (None, 0)) in
    ap (λ t. years_or (cond ((t && true) && not (all_blank holder)) years None) 11 rest) (long 11 value (omega arith))
    ∙ ap (λ t. years_or (cond (not t) years None) 11 rest) some
    ∙ ap (λ o. years_or o 11 rest) (two_years low high order short)

-- a single year is not the first of two
no_minus : (holder : List ℕ) → starts_with nat_eq holder (codes "-") ≡ false
    → starts_with nat_eq (32 ∷ holder) (codes " - ") ≡ false
no_minus holder e = no_longer holder (codes "-") (codes " ") e

front_of : (n : ℕ) (xs : List ℕ) → starts_with nat_eq xs (codes "-") ≡ false
    → starts_with nat_eq (take n xs) (codes "-") ≡ false
front_of n [] e = by n
  where
    by : (m : ℕ) → starts_with nat_eq (take m []) (codes "-") ≡ false
    by zero = refl
    by (suc m) = refl
front_of zero (x ∷ xs) e = refl
front_of (suc n) (x ∷ xs) e = e

no_longer_years : (year n : ℕ) (holder : List ℕ) → starts_with nat_eq holder (codes "-") ≡ false
    → years_written (four_digits year ++ 32 ∷ take n holder) ≡ None
no_longer_years year n holder e =
    ap (λ t. cond t (years_between (year_of text) (year_of text)) nine) (eq_no (length text) 4 (omega arith))
    ∙ ap (λ t. cond t (years_between (year_of (take 4 text)) (year_of (drop 5 text))) eleven) (none (length text == 9))
    ∙ ap (λ t. cond t (years_between (year_of (take 4 text)) (year_of (drop 7 text))) None)
    (ap (λ t. (length text == 11) && t) (no_minus (take n holder) (front_of n holder e)) ∙ none (length text == 11))
  where
    text : List ℕ
    text = four_digits year ++ 32 ∷ take n holder

    eleven : Option Years
    eleven =
        cond (length text == 11 && starts_with nat_eq (32 ∷ take n holder) (codes " - "))
        (years_between (year_of (take 4 text)) (year_of (drop 7 text))) None

    nine : Option Years
    nine =
        cond (length text == 9 && starts_with nat_eq (32 ∷ take n holder) (codes "-"))
        (years_between (year_of (take 4 text)) (year_of (drop 5 text))) eleven

    none : (t : Bool) → (t && false) ≡ false
    none true = refl
    none false = refl

    eq_no : (a b : ℕ) → b < a → (a == b) ≡ false
    eq_no a b low = grind (arith, nat_tests)

front_one : (year : ℕ) (holder : List ℕ) → year ≤ 9999 → all_blank holder ≡ false
    → starts_with nat_eq holder (codes "-") ≡ false
    → years_front (four_digits year ++ 32 ∷ holder) ≡ (Some (record { low = year; high = year }), 4)
front_one year holder short some minus =
    let value = four_digits year ++ 32 ∷ holder in
    let years : Option Years = years_written (four_digits year) in
    ap (λ o. years_or o 11 (years_or (years_in 9 value) 9 (years_or (years_in 4 value) 4 (None, 0))))
    (unless _ _ (no_longer_years year 6 holder minus))
    ∙ ap (λ o. years_or o 9 (years_or (years_in 4 value) 4 (None, 0)))
    (unless _ _ (no_longer_years year 4 holder minus))
    ∙ ap (λ t. years_or (cond ((t && true) && not (all_blank holder)) years None) 4 (None, 0))
    (long 4 value (omega arith))
    ∙ ap (λ t. years_or (cond (not t) years None) 4 (None, 0)) some
    ∙ ap (λ o. years_or o 4 (None, 0)) (one_year year short)

-- ---- the notice

-- how a holder that might not be misread begins
record IsClear (holder : List ℕ) : Type 0 where
  digit : list_any is_ascii_digit (take 1 holder) ≡ false
  minus : starts_with nat_eq holder (codes "-") ≡ false
  c : starts_with nat_eq holder (codes "(C)") ≡ false
  word : starts_with nat_eq holder (codes "Copyright") ≡ false
  sign : starts_with nat_eq holder copyright_sign ≡ false

is_clear : (holder : List ℕ) → may_be_misread holder ≡ false → IsClear holder
is_clear holder e =
    let starts = λ (lead : List ℕ). starts_with nat_eq holder lead in
    let a =
    or_parts (list_any is_ascii_digit (take 1 holder))
    (list_any starts (codes "-" ∷ codes "(C)" ∷ codes "Copyright" ∷ copyright_sign ∷ [])) e in
    let b =
    or_parts (starts (codes "-")) (list_any starts (codes "(C)" ∷ codes "Copyright" ∷ copyright_sign ∷ [])) a.1 in
    let c = or_parts (starts (codes "(C)")) (list_any starts (codes "Copyright" ∷ copyright_sign ∷ [])) b.1 in
    let d = or_parts (starts (codes "Copyright")) (list_any starts (copyright_sign ∷ [])) c.1 in
    let f = or_parts (starts copyright_sign) false d.1 in
    record { digit = a.0; minus = b.0; c = c.0; word = d.0; sign = f.0 }

-- the value of a notice, where it doesn't begin with a blank byte
said_behind : (prefix : Prefix) (rest holder : List ℕ) (years : Option Years) (n : ℕ) → IsApart rest
    → drop_front is_blank rest ≡ rest → years_front rest ≡ (years, n) → trimmed is_blank (drop n rest) ≡ holder
    → says prefix years holder (notice_of (prefix_text prefix ++ 32 ∷ rest)) ≡ true
unfolding drop_front
said_behind prefix rest holder years n apart first front is =
    let text = prefix_text prefix ++ 32 ∷ rest in
    let value : drop_front is_blank (drop (length (prefix_text prefix)) text) ≡ rest =
    ap (drop_front is_blank) (drop-append_seam (prefix_text prefix) (32 ∷ rest)) ∙ first in
    ap (λ o. says prefix years holder (option_map (notice_behind text) o)) (found prefix rest apart)
    ∙ ap (λ v. says prefix years holder (Some (record {
      prefix = prefix;
      years =
          (years_front v).0;
      holder = trimmed is_blank (drop (years_front v).1 v);
      text = text;
    }))) value
    ∙ ap (λ (f : Option Years × ℕ). says prefix years holder (Some
    (record { prefix = prefix; years = f.0; holder = trimmed is_blank (drop f.1 rest); text = text }))) front
    ∙ ap (λ h. says prefix years holder (Some (record { prefix = prefix; years = years; holder = h; text = text }))) is
    ∙ ap (λ b. b && same_years years years && bytes_eq holder holder) (own_text (prefix_text prefix))
    ∙ ap (λ b. b && bytes_eq holder holder) (own_years years) ∙ own_text holder
  where
    own_years : (o : Option Years) → same_years o o ≡ true
    own_years None = refl
    own_years (Some y) = ap (λ b. b && nat_eq y.high y.high) (eq-eqb y.low y.low refl) ∙ eq-eqb y.high y.high refl

-- no years
said_none : (prefix : Prefix) (holder : List ℕ) → all_blank holder ≡ false → trimmed is_blank holder ≡ holder
    → IsClear holder → says prefix None holder (notice_of (prefix_text prefix ++ 32 ∷ holder)) ≡ true
said_none prefix [] some trim clear = absurd (false≢true (sym some))
said_none prefix (b ∷ holder) some trim clear =
    said_behind prefix (b ∷ holder) (b ∷ holder) None 0
    (record { c = clear.c; word = clear.word; sign = clear.sign; some = some })
    (ap (drop_front is_blank) (sym trim) ∙ drop_front-kept is_blank (b ∷ holder) ∙ trim)
    (no_front b holder (or_parts (is_ascii_digit b) false clear.digit).0) trim

-- a digit begins no prefix, and is not blank
no_digit : (m n : ℕ) → n ≤ 9 → (m < 48) ⊎ (57 < m) → nat_eq m (48 + n) ≡ false
no_digit m n low (inl small) = grind (arith, nat_tests)
no_digit m n low (inr large) = grind (arith, nat_tests)

full_digit : (n : ℕ) → is_blank (48 + n) ≡ false
full_digit n = grind (arith, nat_tests)

pub blank_behind : (xs ys : List ℕ) → all_blank ys ≡ false → all_blank (xs ++ ys) ≡ false
blank_behind [] ys e = e
blank_behind (x ∷ xs) ys e = ap (λ t. is_blank x && t) (blank_behind xs ys e) ∙ by (is_blank x)
  where
    by : (t : Bool) → (t && false) ≡ false
    by true = refl
    by false = refl

digit_apart : (n : ℕ) (rest : List ℕ) → n ≤ 9 → all_blank ((48 + n) ∷ rest) ≡ false → IsApart ((48 + n) ∷ rest)
digit_apart n rest low some = record {
  c = ap (λ t. t && starts_with nat_eq rest (codes "C)")) (no_digit 40 n low (inl (omega arith)));
  word = ap (λ t. t && starts_with nat_eq rest (codes "opyright")) (no_digit 67 n low (inr (omega arith)));
  sign = ap (λ t. t && starts_with nat_eq rest (169 ∷ [])) (no_digit 194 n low (inr (omega arith)));
  some = some;
}

digit_first : (n : ℕ) (rest : List ℕ) → drop_front is_blank ((48 + n) ∷ rest) ≡ (48 + n) ∷ rest
unfolding drop_front
digit_first n rest = ap (λ t. cond t (drop_front is_blank rest) ((48 + n) ∷ rest)) (full_digit n)

trim_space : (holder : List ℕ) → trimmed is_blank holder ≡ holder → trimmed is_blank (32 ∷ holder) ≡ holder
unfolding drop_front
trim_space holder e = e

-- a year, or two
said_one : (prefix : Prefix) (year : ℕ) (holder : List ℕ) → year ≤ 9999 → all_blank holder ≡ false
    → trimmed is_blank holder ≡ holder → IsClear holder
    → says prefix (Some (record { low = year; high = year })) holder
    (notice_of (prefix_text prefix ++ 32 ∷ four_digits year ++ 32 ∷ holder)) ≡ true
said_one prefix year holder short some trim clear =
    ap (λ t. says prefix (Some (record { low = year; high = year })) holder (notice_of t))
    (append_assoc (prefix_text prefix) (32 ∷ four_digits year) (32 ∷ holder))
    ∙ said_behind prefix (four_digits year ++ 32 ∷ holder) holder (Some (record { low = year; high = year })) 4
    (digit_apart (year / 1000) _ (omega arith) (blank_behind (four_digits year ++ 32 ∷ []) holder some))
    (digit_first (year / 1000) _) (front_one year holder short some clear.minus) (trim_space holder trim)

said_two : (prefix : Prefix) (low high : ℕ) (holder : List ℕ) → low ≤ high → high ≤ 9999 → all_blank holder ≡ false
    → trimmed is_blank holder ≡ holder
    → says prefix (Some (record { low = low; high = high })) holder
    (notice_of (prefix_text prefix ++ 32 ∷ (four_digits low ++ codes " - " ++ four_digits high) ++ 32 ∷ holder)) ≡ true
said_two prefix low high holder order short some trim =
    let years = four_digits low ++ codes " - " ++ four_digits high in
    ap (λ t. says prefix (Some (record { low = low; high = high })) holder (notice_of t))
    (append_assoc (prefix_text prefix) (32 ∷ years) (32 ∷ holder))
    ∙ said_behind prefix (years ++ 32 ∷ holder) holder (Some (record { low = low; high = high })) 11
    (digit_apart (low / 1000) _ (omega arith) (blank_behind (years ++ 32 ∷ []) holder some))
    (digit_first (low / 1000) _) (front_two low high holder order short some) (trim_space holder trim)

pub said_again : (prefix : Prefix) (years : Option Years) (holder : List ℕ) → CanBeWritten years
    → all_blank holder ≡ false → trimmed is_blank holder ≡ holder → may_be_misread holder ≡ false
    → says prefix years holder (notice_of (notice_written prefix years holder)) ≡ true
said_again prefix None holder can some trim clear = said_none prefix holder some trim (is_clear holder clear)
said_again prefix (Some years) holder can some trim clear = elim (truth (years.low == years.high)) [
  | inl e ↦ (let same : years.low ≡ years.high = eqb-true years.low years.high e in
      ap (λ t. says prefix (Some years) holder (notice_of (prefix_text prefix ++ 32 ∷ cond t
      (four_digits years.low) two ++ 32 ∷ holder))) e
      ∙ ap (λ (h : ℕ). says prefix (Some (record { low = years.low; high = h })) holder
      (notice_of (prefix_text prefix ++ 32 ∷ four_digits years.low ++ 32 ∷ holder)))
      (sym same)
      ∙ said_one prefix years.low holder (omega (arith, same, can.1)) some trim (is_clear holder clear))
  | inr e ↦
      ap (λ t. says prefix (Some years) holder (notice_of (prefix_text prefix ++ 32 ∷ cond t
      (four_digits years.low) two ++ 32 ∷ holder))) e
      ∙ said_two prefix years.low years.high holder can.0 can.1 some trim
]
  where
    two : List ℕ
    two = four_digits years.low ++ codes " - " ++ four_digits years.high
