-- The texts of additions are plain.
use Rattle.std.proofs.Common.{◌≡◌, ◌≢◌, ℕ, ◌+◌, ◌-◌, ◌*◌, ◌/◌, ◌%◌, ◌≤◌, Bool, true, false, cond, List, [], ◌∷◌, ◌++◌}
use Rattle.std.proofs.Common.{length, map, Bor, Option, Some, None, refl, sym, ap, ◌∙◌, subst, arith, inl, inr}
use Rattle.std.proofs.Common.{append_assoc, length-append}
use Rattle.std.specs.Prelude.{All, find, fold, filter_map, not, ◌||◌, ◌&&◌, ◌==◌, nat_eq, nat_le, nat_lt, min, max}
use Rattle.std.specs.Prelude.{take, drop, codes, slice_index}
use Rattle.std.specs.Char.{is_ascii_digit}
use Rattle.std.specs.Str.{bytes_eq}
use Rattle.std.specs.Prelude.{slice_index_or}
use Rattle.std.proofs.lemmas.Bool.Decides.{nat_tests}
use Rattle.std.specs.List.{list_any, list_all, starts_with, cons_option}
use Rattle.std.specs.Option.{option_map, option_and_then}
use Rattle.std.proofs.lemmas.Bool.{le-ltb, eqb-true, false_from_ne_true}
use Rattle.std.proofs.lemmas.List.Folds.{list_any-append, list_all-append}
use Rattle.std.proofs.Math.Bool.{and-false}
use Rattle.std.proofs.lemmas.List.Elements.{All-nil, All-cons, All-map}
use Rattle.reuse_notice.specs.declared.prefixes.Prefix.{Prefix}
use Rattle.reuse_notice.specs.declared.prefixes.Prefix.TheVariants.{Spdx, SpdxC, SpdxSymbol, SpdxString, SpdxStringC}
use Rattle.reuse_notice.specs.declared.prefixes.Prefix.TheVariants.{SpdxStringSymbol, String, StringC, StringSymbol}
use Rattle.reuse_notice.specs.declared.prefixes.Prefix.TheVariants.{Symbol}
use Rattle.reuse_notice.specs.declared.tags.Years.{Years}
use Rattle.reuse_notice.specs.Prefixes.{prefix_text}
use Rattle.reuse_notice.specs.Tags.{NoticeText, is_blank, all_blank, drop_front, drop_end, year_of, years_between}
use Rattle.reuse_notice.specs.Tags.{years_written, years_in, years_or, years_front, prefix_of, notice_behind, notice_of}
use Rattle.reuse_notice.specs.Merging.{with_holder, member, class_of, joined_years, class_years}
use Rattle.reuse_notice.specs.Keeping.{HaveFourDigits}
use Rattle.reuse_notice.specs.Texts.{texts_of}
use Rattle.reuse_notice.specs.Adding.{is_space, is_control, is_bad_text, holds, ignore_start, snippet_begin}
use Rattle.reuse_notice.specs.Adding.{without_spaces, four_digits, years_text, chosen_years, notice_written}
use Rattle.reuse_notice.specs.Plain.{IsPlain}
use Rattle.std.proofs.lemmas.Bool.{cases_Bool as truth}
use Rattle.reuse_notice.proofs.BlankLemmas.{drop_end-twice}

-- ---- what is left at the ends

module _ {X : Type 0} (test : X → Bool) where
  -- the first element that is kept stays the first
  pub drop_front-kept : (xs : List X)
      → drop_front test (drop_end test (drop_front test xs)) ≡ drop_end test (drop_front test xs)
  unfolding drop_front drop_end
  drop_front-kept [] = refl
  drop_front-kept (x ∷ xs) = elim (truth (test x)) [
    | inl e ↦ rw e (drop_front-kept xs)
    | inr e ↦ rw e (rw e (rw e refl))
  ]

  all-kept : (xs : List X) → drop_end test xs ≡ xs → xs ≢ [] → list_all test xs ≡ false
  unfolding drop_end
  all-kept [] e some = absurd (some refl)
  all-kept (x ∷ xs) e some = elim (truth (list_all test (x ∷ xs))) [
    | inl t ↦ absurd (some (sym e ∙ ap (λ b. cond b [] (x ∷ drop_end test xs)) t))
    | inr f ↦ f
  ]

  -- nothing is dropped behind elements that stay
  pub drop_end-append : (xs ys : List X) → drop_end test ys ≡ ys → ys ≢ [] → drop_end test (xs ++ ys) ≡ xs ++ ys
  unfolding drop_end
  drop_end-append [] ys e some = e
  drop_end-append (x ∷ xs) ys e some =
      let f : list_all test (x ∷ (xs ++ ys)) ≡ false =
      ap (λ b. test x && b) (list_all-append test xs ys ∙ ap (λ b. list_all test xs && b) (all-kept ys e some)
      ∙ and-false (list_all test xs)) ∙ and-false (test x) in
      rw f (ap (λ zs. x ∷ zs) (drop_end-append xs ys e some))

-- ---- holders and contributors

pub or-parts : (a b : Bool) → (a || b) ≡ false → (a ≡ false) × (b ≡ false)
or-parts true b e = absurd (cc e)
or-parts false b e = (refl, e)

pub or-none : (a b : Bool) → a ≡ false → b ≡ false → (a || b) ≡ false
or-none a b e f = ap (λ x. x || b) e ∙ f

-- an empty text is bad
not-empty : (text : List ℕ) → (length text == 0) ≡ false → text ≢ []
not-empty text e is = let t : true ≡ false = sym (ap (λ xs. length xs == 0) is) ∙ e in cc

-- a text without outer spaces has none
pub trimmed-twice : (raw : List ℕ) → without_spaces (without_spaces raw) ≡ without_spaces raw
trimmed-twice raw =
    ap (drop_end is_space) (drop_front-kept is_space raw) ∙ drop_end-twice is_space (drop_front is_space raw)

pub good-text : (raw : List ℕ) → is_bad_text (without_spaces raw) ≡ false → IsPlain (without_spaces raw)
good-text raw e =
    let text = without_spaces raw in
    let parts =
    or-parts (length text == 0) (list_any is_control text) ((or-parts (length text == 0 || list_any is_control text)
    (holds ignore_start text) (or-parts _ (holds snippet_begin text) e).0).0) in
    record {
      some = not-empty text parts.0;
      printable = parts.1;
      trimmed = trimmed-twice raw;
    }

find-none : {X : Type 0} (test : X → Bool) (x : X) (xs : List X) → find test (x ∷ xs) ≡ None
    → (test x ≡ false) × (find test xs ≡ None)
find-none test x xs e = elim (truth (test x)) [
  | inl t ↦ (let s : Some x ≡ None = sym (ap (λ b. cond b (Some x) (find test xs)) t) ∙ e in absurd (cc s))
  | inr f ↦ (f, sym (ap (λ b. cond b (Some x) (find test xs)) f) ∙ e)
]

pub good-texts : (raw : List (Bor (List ℕ))) → find is_bad_text (texts_of raw) ≡ None → All IsPlain (texts_of raw)
good-texts [] e = All-nil IsPlain
good-texts (t ∷ raw) e =
    let parts = find-none is_bad_text (without_spaces t.now) (texts_of raw) e in
    All-cons IsPlain (without_spaces t.now) (texts_of raw) (good-text t.now parts.0) (good-texts raw parts.1)

-- ---- notices

digit : (n : ℕ) → n ≤ 9 → is_control (48 + n) ≡ false
digit n low = or-none _ _ (le-ltb (48 + n) 32 (omega arith))
    (false_from_ne_true _ (λ t. let e : 48 + n ≡ 127 = eqb-true (48 + n) 127 t in absurd (omega arith)))

printable-digits : (n : ℕ) → n ≤ 9999 → list_any is_control (four_digits n) ≡ false
printable-digits n low =
    or-none _ _ (digit (n / 1000) (omega arith)) (or-none _ _ (digit (n / 100 % 10) (omega arith))
    (or-none _ _ (digit (n / 10 % 10) (omega arith)) (or-none _ _ (digit (n % 10) (omega arith)) refl)))

none-append : (xs ys : List ℕ) → list_any is_control xs ≡ false → list_any is_control ys ≡ false
    → list_any is_control (xs ++ ys) ≡ false
none-append xs ys e f = list_any-append is_control xs ys ∙ or-none _ _ e f

printable-years : (years : Years) → HaveFourDigits (Some years) → list_any is_control (years_text years) ≡ false
printable-years years short = elim (truth (years.low == years.high)) [
  | inl e ↦ rw e (printable-digits years.low short.0)
  | inr e ↦ rw e (none-append (four_digits years.low ++ codes " - ") (four_digits years.high)
      (none-append (four_digits years.low) (codes " - ") (printable-digits years.low short.0) refl)
      (printable-digits years.high short.1))
]

pub printable-prefix : (prefix : Prefix) → list_any is_control (prefix_text prefix) ≡ false
printable-prefix Spdx = refl
printable-prefix SpdxC = refl
printable-prefix SpdxSymbol = refl
printable-prefix SpdxString = refl
printable-prefix SpdxStringC = refl
printable-prefix SpdxStringSymbol = refl
printable-prefix String = refl
printable-prefix StringC = refl
printable-prefix StringSymbol = refl
printable-prefix Symbol = refl

-- a prefix begins with no space
front-kept : (prefix : Prefix) (rest : List ℕ)
    → drop_front is_space (prefix_text prefix ++ rest) ≡ prefix_text prefix ++ rest
unfolding drop_front
front-kept Spdx rest = refl
front-kept SpdxC rest = refl
front-kept SpdxSymbol rest = refl
front-kept SpdxString rest = refl
front-kept SpdxStringC rest = refl
front-kept SpdxStringSymbol rest = refl
front-kept String rest = refl
front-kept StringC rest = refl
front-kept StringSymbol rest = refl
front-kept Symbol rest = refl

-- a text that ends in a space and a holder
plain-behind : (front holder : List ℕ) → drop_front is_space (front ++ 32 ∷ holder) ≡ front ++ 32 ∷ holder
    → list_any is_control front ≡ false → IsPlain holder → IsPlain (front ++ 32 ∷ holder)
plain-behind front holder kept printable plain =
    let last : drop_end is_space holder ≡ holder =
    ap (drop_end is_space) (sym plain.trimmed) ∙ drop_end-twice is_space (drop_front is_space holder) ∙ plain.trimmed in
    let space : drop_end is_space (32 ∷ holder) ≡ 32 ∷ holder =
    drop_end-append is_space (32 ∷ []) holder last plain.some in
    record {
      some = λ e. absurd (omega (arith, ap length e, length-append front (32 ∷ holder)));
      printable = none-append front (32 ∷ holder) printable plain.printable;
      trimmed = ap (drop_end is_space) kept ∙ drop_end-append is_space front (32 ∷ holder) space (λ e. cc e);
    }

pub plain-notice : (prefix : Prefix) (years : Option Years) (holder : List ℕ) → HaveFourDigits years → IsPlain holder
    → IsPlain (notice_written prefix years holder)
plain-notice prefix None holder short plain =
    plain-behind (prefix_text prefix) holder (front-kept prefix (32 ∷ holder)) (printable-prefix prefix) plain
plain-notice prefix (Some years) holder short plain =
    plain-behind (prefix_text prefix ++ 32 ∷ years_text years) holder
    (subst (λ xs. drop_front is_space xs ≡ xs) (sym (append_assoc (prefix_text prefix) (32 ∷ years_text years)
    (32 ∷ holder))) (front-kept prefix ((32 ∷ years_text years) ++ 32 ∷ holder)))
    (none-append (prefix_text prefix) (32 ∷ years_text years) (printable-prefix prefix)
    (printable-years years short)) plain

-- ---- the years of arguments

small-digit : (d : ℕ) → is_ascii_digit d ≡ true → d ≤ 57
small-digit d e = grind (arith, nat_tests)

-- a year, if there is one, is below ten thousand
IsShortYear : Option ℕ → Type 0
IsShortYear None = Unit {0}
IsShortYear (Some year) = year ≤ 9999

short-sum : (a b c d : ℕ) (t : Bool) → (t ≡ true → (a ≤ 57) × (b ≤ 57) × (c ≤ 57) × (d ≤ 57))
    → IsShortYear (cond t (Some ((a - 48) * 1000 + (b - 48) * 100 + (c - 48) * 10 + (d - 48))) None)
unfolding IsShortYear
short-sum a b c d true low = let h : (a ≤ 57) × (b ≤ 57) × (c ≤ 57) × (d ≤ 57) = low refl in omega arith
short-sum a b c d false low = tt

pub and-parts : (a b : Bool) → (a && b) ≡ true → (a ≡ true) × (b ≡ true)
and-parts true b e = (refl, e)
and-parts false b e = absurd (cc e)

short-year : (text : List ℕ) → IsShortYear (year_of text)
unfolding IsShortYear
short-year [] = tt
short-year (a ∷ []) = tt
short-year (a ∷ b ∷ []) = tt
short-year (a ∷ b ∷ c ∷ []) = tt
short-year (a ∷ b ∷ c ∷ d ∷ []) = short-sum a b c d (list_all is_ascii_digit (a ∷ b ∷ c ∷ d ∷ [])) (λ e.
    let p = and-parts (is_ascii_digit a) (list_all is_ascii_digit (b ∷ c ∷ d ∷ [])) e in
    let q = and-parts (is_ascii_digit b) (list_all is_ascii_digit (c ∷ d ∷ [])) p.1 in
    let r = and-parts (is_ascii_digit c) (list_all is_ascii_digit (d ∷ [])) q.1 in
    (small-digit a p.0, small-digit b q.0, small-digit c r.0, small-digit d (and-parts (is_ascii_digit d) true r.1).0))
short-year (a ∷ b ∷ c ∷ d ∷ e ∷ text) = tt

pub year-short : (text : List ℕ) (year : ℕ) → year_of text ≡ Some year → year ≤ 9999
unfolding IsShortYear
year-short text year e = subst IsShortYear e (short-year text)

lowest : (low : ℕ) (xs : List ℕ) → low ≤ 9999 → fold min low xs ≤ 9999
lowest low [] h = h
lowest low (x ∷ xs) h = lowest (min low x) xs (omega arith)

highest : (high : ℕ) (texts : List (List ℕ)) → high ≤ 9999 → fold max high (filter_map year_of texts) ≤ 9999
unfolding IsShortYear
highest high [] h = h
highest high (t ∷ texts) h = by (year_of t) (short-year t) (λ n low. highest n texts low)
  where
    by : (o : Option ℕ) → IsShortYear o → ((n : ℕ) → n ≤ 9999 → fold max n (filter_map year_of texts) ≤ 9999)
        → fold max high (cons_option o (filter_map year_of texts)) ≤ 9999
    by None short more = more high h
    by (Some y) short more = more (max high y) (omega arith)

pub short-chosen : (years : List (List ℕ)) (exclude : Bool) (current : ℕ) → current ≤ 9999
    → HaveFourDigits (chosen_years years exclude current)
short-chosen years true current h = tt
short-chosen [] false current h = (h, h)
short-chosen (y ∷ years) false current h =
    (lowest 9999 (filter_map year_of (y ∷ years)) (omega arith), highest 0 (y ∷ years) (omega arith))

pub plain-notices : (prefix : Prefix) (years : Option Years) (holders : List (List ℕ)) → HaveFourDigits years
    → All IsPlain holders → All IsPlain (map (notice_written prefix years) holders)
plain-notices prefix years holders short plain = All-map IsPlain (notice_written prefix years) holders
    (λ k d low. plain-notice prefix years (slice_index_or holders k d) short (plain k d low))

-- ---- the years that are read and merged

between-digits : (low high : Option ℕ) → IsShortYear low → IsShortYear high → HaveFourDigits (years_between low high)
unfolding IsShortYear
between-digits (Some low) (Some high) a b = by (nat_le low high)
  where
    by : (t : Bool) → HaveFourDigits (cond t (Some (record { low = low; high = high })) None)
    by true = (a, b)
    by false = tt
between-digits (Some low) None a b = tt
between-digits None high a b = tt

one-of : (t : Bool) (some other : Option Years) → HaveFourDigits some → HaveFourDigits other
    → HaveFourDigits (cond t some other)
one-of true some other a b = a
one-of false some other a b = b

written-digits : (text : List ℕ) → HaveFourDigits (years_written text)
written-digits text =
    one-of (length text == 4) _ _ (between-digits (year_of text) (year_of text) (short-year text) (short-year text))
    (one-of (length text == 9 && starts_with nat_eq (drop 4 text) (codes "-")) _ _ (between-digits
    (year_of (take 4 text)) (year_of (drop 5 text)) (short-year (take 4 text)) (short-year (drop 5 text)))
    (one-of (length text == 11 && starts_with nat_eq (drop 4 text) (codes " - ")) _ _ (between-digits
    (year_of (take 4 text)) (year_of (drop 7 text)) (short-year (take 4 text)) (short-year (drop 7 text))) tt))

in-digits : (n : ℕ) (value : List ℕ) → HaveFourDigits (years_in n value)
in-digits n value =
    one-of (nat_lt n (length value) && is_blank (slice_index value n) && not (all_blank (drop (n + 1) value))) _ _
    (written-digits (take n value)) tt

or-digits : (years : Option Years) (n : ℕ) (shorter : Option Years × ℕ) → HaveFourDigits years
    → HaveFourDigits shorter.0 → HaveFourDigits (years_or years n shorter).0
or-digits (Some years) n shorter a b = a
or-digits None n shorter a b = b

front-digits : (value : List ℕ) → HaveFourDigits (years_front value).0
front-digits value =
    or-digits (years_in 11 value) 11 _ (in-digits 11 value) (or-digits (years_in 9 value) 9 _ (in-digits 9 value)
    (or-digits (years_in 4 value) 4 (None, 0) (in-digits 4 value) tt))

pub read-digits : (text : List ℕ) (notice : NoticeText) → notice_of text ≡ Some notice → HaveFourDigits notice.years
read-digits text notice e = by (prefix_of text) e
  where
    by : (o : Option Prefix) → option_map (notice_behind text) o ≡ Some notice → HaveFourDigits notice.years
    by None h = absurd (cc h)
    by (Some p) h =
        let same : notice_behind text p ≡ notice = cc h in
        subst (λ (m : NoticeText). HaveFourDigits m.years) same
        (front-digits (drop_front is_blank (drop (length (prefix_text p)) text)))

joined-digits : (a b : Option Years) → HaveFourDigits a → HaveFourDigits b → HaveFourDigits (joined_years a b)
joined-digits None b h k = k
joined-digits (Some a) None h k = h
joined-digits (Some a) (Some b) h k = let low = h.0 in let high = h.1 in let low_too = k.0 in let high_too = k.1 in
    (omega arith, omega arith)

of-member : (holder text : List ℕ) (n : NoticeText) (o : Option NoticeText) → notice_of text ≡ o
    → option_and_then (with_holder holder) o ≡ Some n → HaveFourDigits n.years
of-member holder text n None is h = absurd (cc h)
of-member holder text n (Some m) is h = by-test (bytes_eq m.holder holder) h
  where
    by-test : (t : Bool) → cond t (Some m) None ≡ Some n → HaveFourDigits n.years
    by-test true k = let same : m ≡ n = cc k in
        subst (λ (x : NoticeText). HaveFourDigits x.years) same (read-digits text m is)
    by-test false k = absurd (cc k)

class-digits-from : (holder : List ℕ) (years : Option Years) (texts : List (List ℕ)) → HaveFourDigits years
    → HaveFourDigits (fold joined_years years (map (λ (n : NoticeText). n.years) (class_of texts holder)))
class-digits-from holder years [] h = h
class-digits-from holder years (text ∷ texts) h =
    by (member holder text) refl (λ others k. class-digits-from holder others texts k)
  where
    by : (o : Option NoticeText) → member holder text ≡ o
        → ((others : Option Years) → HaveFourDigits others
        → HaveFourDigits (fold joined_years others (map (λ (n : NoticeText). n.years) (class_of texts holder))))
        → HaveFourDigits
        (fold joined_years years (map (λ (n : NoticeText). n.years) (cons_option o (class_of texts holder))))
    by None is more = more years h
    by (Some n) is more = more (joined_years years n.years)
        (joined-digits years n.years h (of-member holder text n (notice_of text) refl is))

pub class-digits : (holder : List ℕ) (texts : List (List ℕ)) → HaveFourDigits (class_years (class_of texts holder))
class-digits holder texts = class-digits-from holder None texts tt
