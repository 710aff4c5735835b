-- Notices that are written as an addition is are read so, and are amended to such.
use Rattle.std.proofs.Common.{◌≡◌, ℕ, zero, suc, nat_eq, Bool, true, false, cond, List, [], ◌∷◌}
use Rattle.std.proofs.Common.{◌++◌, length, take, Option, Some, None, refl, sym, ap, ◌∙◌}
use Rattle.std.proofs.Common.{append_assoc, inl, inr, ◌⊎◌}
use Rattle.std.specs.Prelude.{not, ◌&&◌, ◌||◌, ◌==◌, codes}
use Rattle.std.specs.Char.{is_ascii_digit}
use Rattle.std.specs.List.{starts_with, list_any}
use Rattle.std.specs.Option.{option_map_or, option_and_then}
use Rattle.std.proofs.lemmas.Bool.{false≢true, or_parts, eqb-true}
use Rattle.std.proofs.lemmas.List.{append-nil}
use Rattle.reuse_notice.specs.declared.prefixes.Prefix.{Prefix}
use Rattle.reuse_notice.specs.declared.tags.Years.{Years}
use Rattle.reuse_notice.specs.Prefixes.{prefix_text, copyright_sign}
use Rattle.reuse_notice.specs.Tags.{is_blank, drop_front}
use Rattle.reuse_notice.specs.Adding.{years_text, notice_written}
use Rattle.reuse_notice.proofs.PlainLemmas.{drop_front-kept}
use Rattle.reuse_amend.specs.YearSpans.{span_from, span_front}
use Rattle.reuse_amend.specs.YearSpans.{run_front}
use Rattle.reuse_amend.specs.NoticeParts.{Parts, parts_text}
use Rattle.reuse_amend.specs.NoticeParts.{is_no_comma, unless_blank, next_searched, years_tail, tail_of}
use Rattle.reuse_amend.specs.InPlace.{goes_on}
use Rattle.reuse_amend.specs.Settled.{begins_digit, has_dated_comma, may_be_read_on}
use Rattle.reuse_amend.proofs.RunLemmas.{run-none}
use Rattle.reuse_amend.proofs.PartLemmas.{is_full}
use Rattle.reuse_amend.proofs.ShapeLemmas.{IsWhole, first_of}
use Rattle.reuse_amend.proofs.ReadAgainLemmas.{no_year}
use Rattle.reuse_amend.proofs.AlikeLemmas.{IsStill, still_holder}

-- the parts of a notice that is written as an addition is
abbrev pub added : Prefix → Option Years → List ℕ → Parts
added prefix None holder = record {
  prefix = prefix;
  front = prefix_text prefix ++ codes " ";
  years = [];
  between = [];
  holder = holder;
  trailing = [];
  years_first = false;
}
added prefix (Some years) holder = record {
  prefix = prefix;
  front = prefix_text prefix ++ codes " ";
  years = years_text years;
  between = codes " ";
  holder = holder;
  trailing = [];
  years_first = true;
}

pub added_text : (prefix : Prefix) (years : Option Years) (holder : List ℕ)
    → parts_text (added prefix years holder) ≡ notice_written prefix years holder
added_text prefix None holder =
    append-nil (prefix_text prefix ++ codes " " ++ holder ++ [] ++ [])
    ∙ append-nil (prefix_text prefix ++ codes " " ++ holder ++ [])
    ∙ append-nil (prefix_text prefix ++ codes " " ++ holder)
    ∙ append_assoc (prefix_text prefix) (codes " ") holder
added_text prefix (Some years) holder =
    append-nil (prefix_text prefix ++ codes " " ++ years_text years ++ codes " " ++ holder)
    ∙ append_assoc (prefix_text prefix ++ codes " " ++ years_text years) (codes " ") holder
    ∙ ap (λ t. t ++ 32 ∷ holder) (append_assoc (prefix_text prefix) (codes " ") (years_text years))

-- ---- holders that are read as they are written

pub record IsClear (holder : List ℕ) : Type 0 where
  pub full : is_full holder ≡ true
  pub digit : begins_digit holder ≡ false
  pub c : starts_with nat_eq holder (codes "(C)") ≡ false
  pub word : starts_with nat_eq holder (codes "Copyright") ≡ false
  pub sign : starts_with nat_eq holder copyright_sign ≡ false
  pub colon : starts_with nat_eq holder (codes ":") ≡ false
  pub small : starts_with nat_eq holder (codes "(c)") ≡ false
  pub still : IsStill holder
  pub comma : has_dated_comma holder ≡ false

whole_full : (xs : List ℕ) → IsWhole xs → is_full xs ≡ true
whole_full [] whole = absurd (false≢true (sym whole.some))
whole_full (x ∷ xs) whole = ap not (first_of is_blank (x ∷ xs)
    (ap (drop_front is_blank) (sym whole.trim) ∙ drop_front-kept is_blank (x ∷ xs) ∙ whole.trim))

pub is_clear : (holder : List ℕ) → IsWhole holder → may_be_read_on holder ≡ false → IsClear holder
is_clear holder whole e =
    let starts = λ (lead : List ℕ). starts_with nat_eq holder lead in
    let misread = list_any is_ascii_digit (take 1 holder) || list_any starts
    (codes "-" ∷ codes "(C)" ∷ codes "Copyright" ∷ copyright_sign ∷ []) in
    let lead = list_any starts (codes ":" ∷ codes "(c)" ∷ []) in
    let a = or_parts (misread || goes_on holder || lead) (has_dated_comma holder) e in
    let b = or_parts (misread || goes_on holder) lead a.0 in
    let c = or_parts misread (goes_on holder) b.0 in
    let d = or_parts (list_any is_ascii_digit (take 1 holder))
    (list_any starts (codes "-" ∷ codes "(C)" ∷ codes "Copyright" ∷ copyright_sign ∷ [])) c.0 in
    let f =
    or_parts (starts (codes "-")) (list_any starts (codes "(C)" ∷ codes "Copyright" ∷ copyright_sign ∷ [])) d.1 in
    let g = or_parts (starts (codes "(C)")) (list_any starts (codes "Copyright" ∷ copyright_sign ∷ [])) f.1 in
    let h = or_parts (starts (codes "Copyright")) (list_any starts (copyright_sign ∷ [])) g.1 in
    let i = or_parts (starts copyright_sign) false h.1 in
    let j = or_parts (starts (codes ":")) (list_any starts (codes "(c)" ∷ [])) b.1 in
    let k = or_parts (starts (codes "(c)")) false j.1 in
    record {
      full = whole_full holder whole;
      digit = d.0;
      c = g.0;
      word = h.0;
      sign = i.0;
      colon = j.0;
      small = k.0;
      still = still_holder holder c.1;
      comma = a.1;
    }

-- ---- no years behind the holder

tail_nil : (n : ℕ) → years_tail n [] ≡ []
unfolding years_tail drop_front
tail_nil zero = refl
tail_nil (suc n) = refl

-- the first byte begins no year
no_span : (xs : List ℕ) → begins_digit xs ≡ false → span_front xs ≡ None
no_span [] e = refl
no_span (x ∷ xs) e = ap (option_and_then (span_from (x ∷ xs)))
    (no_year x (take 3 xs) (or_parts (is_ascii_digit x) false e).0)

pub no_run : (xs : List ℕ) → begins_digit xs ≡ false → run_front xs ≡ None
no_run xs e = sym (run-none xs (no_span xs e))

-- from the first comma on, no digit follows one
from_comma : (text : List ℕ) → has_dated_comma text ≡ false
    → (drop_front is_no_comma text ≡ []) ⊎ ((bytes : List ℕ) × (drop_front is_no_comma text ≡ 44 ∷ bytes)
    × (begins_digit (drop_front is_blank bytes) ≡ false) × (has_dated_comma bytes ≡ false))
unfolding drop_front
from_comma [] e = inl refl
from_comma (b ∷ text) e =
    let parts = or_parts (b == 44 && begins_digit (drop_front is_blank text)) (has_dated_comma text) e in
    by (b == 44) refl parts.0 parts.1 (from_comma text parts.1)
  where
    by : (t : Bool) → (b == 44) ≡ t → (t && begins_digit (drop_front is_blank text)) ≡ false
        → has_dated_comma text ≡ false
        → (drop_front is_no_comma text ≡ []) ⊎ ((bytes : List ℕ) × (drop_front is_no_comma text ≡ 44 ∷ bytes)
        × (begins_digit (drop_front is_blank bytes) ≡ false) × (has_dated_comma bytes ≡ false))
        → (cond (not t) (drop_front is_no_comma text) (b ∷ text) ≡ [])
        ⊎ ((bytes : List ℕ) × (cond (not t) (drop_front is_no_comma text) (b ∷ text) ≡ 44 ∷ bytes)
        × (begins_digit (drop_front is_blank bytes) ≡ false) × (has_dated_comma bytes ≡ false))
    by true is undated rest again = inr (text, ap (λ (c : ℕ). c ∷ text) (eqb-true b 44 is), undated, rest)
    by false is undated rest again = again

no_tail : (n : ℕ) (text : List ℕ) → has_dated_comma text ≡ false → years_tail n text ≡ []
unfolding years_tail
no_tail zero text e = refl
no_tail (suc n) text e = elim (from_comma text e) [
  | inl none ↦ ap (λ t. option_map_or (years_tail n) (next_searched t) t) none
  | inr some ↦
      ap (λ t. option_map_or (years_tail n) (next_searched t) t) some.1
      ∙ ap (λ o. option_map_or (years_tail n) (option_map_or (λ run. unless_blank run.rest) o (Some some.0))
      (44 ∷ some.0)) (no_run (drop_front is_blank some.0) some.2)
      ∙ no_tail n some.0 some.3
]

pub tail_none : (holder : List ℕ) → has_dated_comma holder ≡ false → tail_of holder ≡ []
tail_none [] e = no_tail 0 [] refl
tail_none (b ∷ holder) e = no_tail (length (b ∷ holder)) holder
    (or_parts (b == 44 && begins_digit (drop_front is_blank holder)) (has_dated_comma holder) e).1
