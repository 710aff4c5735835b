-- A content that is a tag in some style is one with every mark as punctuation, too.
use Rattle.std.proofs.Common.{◌≡◌, ℕ, zero, suc, ◌<◌, Bool, true, false, nat_eq, List, [], ◌∷◌, length, take, drop}
use Rattle.std.proofs.Common.{None, is_some, refl, sym, ap, subst, ◌∙◌, inl, inr, arith}
use Rattle.std.specs.Prelude.{◌||◌, ◌&&◌, not}
use Rattle.std.specs.List.{starts_with, list_any, list_all}
use Rattle.std.specs.Char.{is_ascii_punctuation}
use Rattle.std.specs.Cmp.Lexicographic.{pointwise}
use Rattle.std.proofs.lemmas.Bool.Decides.{nat_tests}
use Rattle.reuse_notice.specs.declared.prefixes.Prefix.{Prefix}
use Rattle.reuse_notice.specs.declared.prefixes.Prefix.TheVariants.{Spdx, SpdxC, SpdxSymbol, SpdxString, SpdxStringC}
use Rattle.reuse_notice.specs.declared.prefixes.Prefix.TheVariants.{SpdxStringSymbol, String, StringC, StringSymbol}
use Rattle.reuse_notice.specs.declared.prefixes.Prefix.TheVariants.{Symbol}
use Rattle.reuse_notice.specs.Prefixes.{prefix_text}
use Rattle.reuse_notice.specs.Tags.{is_blank, is_filler, drop_front, drop_end, licence_lead}
use Rattle.reuse_notice.specs.Tags.{contributor_lead, tag_in}
use Rattle.reuse_notice.proofs.BlankLemmas.{truth, drop_front-yes, drop_front-no, drop_front-nil}
use Rattle.reuse_style.specs.declared.style.Style.{Style}
use Rattle.reuse_style.specs.Styles.{punctuation_of}
use Rattle.reuse_style.proofs.GoodLemmas.{no_punctuation}
use Rattle.reuse_header.specs.Tagged.{has_tag}
use Rattle.reuse_header.proofs.LeadLemmas.{unled}
use Rattle.reuse_words.specs.Texts.{every_mark}

-- ---- every mark

is_mark : ℕ → Bool
is_mark b = not (is_ascii_punctuation b) || list_any (λ p. nat_eq p b) every_mark

all_below : ℕ → Bool
all_below zero = true
all_below (suc n) = is_mark n && all_below n

first_of_two : (a b : Bool) → (a && b) ≡ true → a ≡ true
first_of_two true b e = refl
first_of_two false b e = e

second_of_two : (a b : Bool) → (a && b) ≡ true → b ≡ true
second_of_two true b e = e
second_of_two false b e = absurd (let none : ⊥ = cc in none)

below : (n b : ℕ) → all_below n ≡ true → b < n → is_mark b ≡ true
unfolding all_below
below zero b e low = absurd (omega arith)
below (suc n) b e low = elim (truth (nat_eq b n)) [
  | inl t ↦ (let same : n ≡ b = grind (arith, nat_tests) in
      subst (λ (k : ℕ). is_mark k ≡ true) same (first_of_two (is_mark n) (all_below n) e))
  | inr f ↦ below n b (second_of_two (is_mark n) (all_below n) e) (grind (arith, nat_tests))
]

all_marks : all_below 128 ≡ true
unfolding all_below is_mark
all_marks = refl

small : (b : ℕ) → is_ascii_punctuation b ≡ true → b < 128
small b e = grind (arith, nat_tests)

mark_by : (sign among : Bool) → (not sign || among) ≡ true → sign ≡ true → among ≡ true
mark_by true among e s = e
mark_by false among e s = absurd (let none : ⊥ = cc in none)

among_marks : (b : ℕ) → is_ascii_punctuation b ≡ true → list_any (λ p. nat_eq p b) every_mark ≡ true
unfolding is_mark
among_marks b e =
    mark_by (is_ascii_punctuation b) (list_any (λ p. nat_eq p b) every_mark) (below 128 b all_marks (small b e)) e

-- what fills a style's contents fills with every mark
filled : (style : Style) (b : ℕ) → is_filler (punctuation_of style) b ≡ true → is_filler every_mark b ≡ true
filled style b e = elim (truth (is_blank b)) [
  | inl t ↦ ap (λ (x : Bool). x || list_any (λ p. nat_eq p b) every_mark) t
  | inr f ↦ elim (truth (is_ascii_punctuation b)) [
    | inl s ↦ ap (λ (x : Bool). x || list_any (λ p. nat_eq p b) every_mark) f ∙ among_marks b s
    | inr s ↦ absurd (let clash : false ≡ true =
        sym (ap (λ (x : Bool). x || list_any (λ p. nat_eq p b) (punctuation_of style)) f
        ∙ no_punctuation style b s) ∙ e in let none : ⊥ = cc in none)
  ]
]

-- ---- dropping more

module _ (narrow wide : ℕ → Bool) (fills : (b : ℕ) → narrow b ≡ true → wide b ≡ true) where
  dropped_more : (bytes : List ℕ) → drop_front wide bytes ≡ drop_front wide (drop_front narrow bytes)
  dropped_more [] = ap (drop_front wide) (sym (drop_front-nil narrow))
  dropped_more (b ∷ bytes) = elim (truth (narrow b)) [
    | inl t ↦ drop_front-yes wide b bytes (fills b t) ∙ dropped_more bytes
        ∙ ap (drop_front wide) (sym (drop_front-yes narrow b bytes t))
    | inr f ↦ ap (drop_front wide) (sym (drop_front-no narrow b bytes f))
  ]

-- ---- what a tag begins with

starts_not : (a b : ℕ) (lead bytes : List ℕ) → nat_eq a b ≡ false → starts_with nat_eq (b ∷ bytes) (a ∷ lead) ≡ false
starts_not a b lead bytes e = ap (λ (t : Bool). t && pointwise nat_eq lead (take (length lead) bytes)) e

record Apart (b : ℕ) : Type 0 where
  letter : nat_eq 83 b ≡ false
  other : nat_eq 67 b ≡ false
  sign : nat_eq 194 b ≡ false

prefix_not : (b : ℕ) (bytes : List ℕ) → Apart b → (prefix : Prefix)
    → starts_with nat_eq (b ∷ bytes) (prefix_text prefix) ≡ false
prefix_not b bytes l Spdx = starts_not 83 b (drop 1 (prefix_text Spdx)) bytes l.letter
prefix_not b bytes l SpdxC = starts_not 83 b (drop 1 (prefix_text SpdxC)) bytes l.letter
prefix_not b bytes l SpdxSymbol = starts_not 83 b (drop 1 (prefix_text SpdxSymbol)) bytes l.letter
prefix_not b bytes l SpdxString = starts_not 83 b (drop 1 (prefix_text SpdxString)) bytes l.letter
prefix_not b bytes l SpdxStringC = starts_not 83 b (drop 1 (prefix_text SpdxStringC)) bytes l.letter
prefix_not b bytes l SpdxStringSymbol = starts_not 83 b (drop 1 (prefix_text SpdxStringSymbol)) bytes l.letter
prefix_not b bytes l String = starts_not 67 b (drop 1 (prefix_text String)) bytes l.other
prefix_not b bytes l StringC = starts_not 67 b (drop 1 (prefix_text StringC)) bytes l.other
prefix_not b bytes l StringSymbol = starts_not 67 b (drop 1 (prefix_text StringSymbol)) bytes l.other
prefix_not b bytes l Symbol = starts_not 194 b (drop 1 (prefix_text Symbol)) bytes l.sign

untagged : (b : ℕ) (bytes : List ℕ) → Apart b → tag_in (b ∷ bytes) ≡ None
untagged b bytes l =
    unled (b ∷ bytes) (starts_not 83 b (drop 1 licence_lead) bytes l.letter)
    (starts_not 83 b (drop 1 contributor_lead) bytes l.letter) (prefix_not b bytes l)

-- ---- a tag in a style

-- bytes that begin with what fills have no tag
filled_untagged : (b : ℕ) (bytes : List ℕ) → is_filler every_mark b ≡ true
    → tag_in (drop_end is_blank (b ∷ bytes)) ≡ None
unfolding drop_end
filled_untagged b bytes e = elim (truth (list_all is_blank (b ∷ bytes))) [
  | inl t ↦ rw t refl
  | inr f ↦ rw f (untagged b (drop_end is_blank bytes) (apart b e))
]
  where
    apart_at : (a c : ℕ) → is_filler every_mark a ≡ false → is_filler every_mark c ≡ true → nat_eq a c ≡ false
    apart_at a c out in_marks = elim (truth (nat_eq a c)) [
      | inl t ↦ (let same : a ≡ c = grind (arith, nat_tests) in
          absurd (let clash : false ≡ true = sym out ∙ ap (is_filler every_mark) same ∙ in_marks in
          let none : ⊥ = cc in none))
      | inr f ↦ f
    ]

    apart : (c : ℕ) → is_filler every_mark c ≡ true → Apart c
    apart c is = record { letter = apart_at 83 c refl is; other = apart_at 67 c refl is; sign = apart_at 194 c refl is }

kept_tag : (bytes : List ℕ) → is_some (tag_in (drop_end is_blank bytes)) ≡ true
    → drop_front (is_filler every_mark) bytes ≡ bytes
kept_tag [] e = drop_front-nil (is_filler every_mark)
kept_tag (b ∷ bytes) e = elim (truth (is_filler every_mark b)) [
  | inl t ↦ absurd (let clash : false ≡ true =
      sym (ap is_some (filled_untagged b bytes t)) ∙ e in let none : ⊥ = cc in none)
  | inr f ↦ drop_front-no (is_filler every_mark) b bytes f
]

-- a content with a tag in a style has one with every mark
pub tagged_in_style : (style : Style) (content : List ℕ) → has_tag (punctuation_of style) content ≡ true
    → has_tag every_mark content ≡ true
unfolding has_tag
tagged_in_style style content e =
    let rest = drop_front (is_filler (punctuation_of style)) content in
    let same : drop_front (is_filler every_mark) content ≡ rest =
    dropped_more (is_filler (punctuation_of style)) (is_filler every_mark) (filled style) content ∙ kept_tag rest e in
    ap (λ (bytes : List ℕ). is_some (tag_in (drop_end is_blank bytes))) same ∙ e

pub none_tagged_in_style : (style : Style) (lines : List (List ℕ)) → list_any (has_tag every_mark) lines ≡ false
    → list_any (has_tag (punctuation_of style)) lines ≡ false
none_tagged_in_style style [] e = refl
none_tagged_in_style style (line ∷ lines) e = elim (truth (has_tag (punctuation_of style) line)) [
  | inl t ↦ absurd (let clash : true ≡ false =
      sym (ap (λ (x : Bool). x || list_any (has_tag every_mark) lines) (tagged_in_style style line t)) ∙ e in
      let none : ⊥ = cc in none)
  | inr f ↦ ap (λ (x : Bool). x || list_any (has_tag (punctuation_of style)) lines) f
      ∙ none_tagged_in_style style lines (rest_of (has_tag every_mark line) (list_any (has_tag every_mark) lines) e)
]
  where
    rest_of : (a b : Bool) → (a || b) ≡ false → b ≡ false
    rest_of false b e = e
    rest_of true b e = absurd (let none : ⊥ = cc in none)
