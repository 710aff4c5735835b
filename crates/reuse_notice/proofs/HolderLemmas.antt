-- The holder that a notice names, and the notices that a merge writes.
use Rattle.std.proofs.Common.{◌≡◌, ℕ, ◌+◌, Bool, true, false, cond, List, [], ◌∷◌, length, map, take, drop, nat_eq}
use Rattle.std.proofs.Common.{Option, Some, None, refl, sym, ap, ◌∙◌, subst, inl, inr, ◌⊎◌}
use Rattle.std.specs.Prelude.{Contains, not, nat_lt, unwrap_or, ◌&&◌, ◌||◌, slice_index}
use Rattle.std.specs.Option.{option_map, option_and_then}
use Rattle.std.specs.List.{list_all, starts_with}
use Rattle.std.proofs.lemmas.List.{drop-drop}
use Rattle.reuse_notice.specs.declared.prefixes.Prefix.{Prefix}
use Rattle.reuse_notice.specs.declared.tags.Years.{Years}
use Rattle.reuse_notice.specs.Prefixes.{prefix_text, longest_first}
use Rattle.reuse_notice.specs.Tags.{NoticeText, is_blank, all_blank, drop_front, drop_end, trimmed, needs_no_space}
use Rattle.reuse_notice.specs.Tags.{leaves_value, prefix_of, years_written, years_in, years_or, years_front}
use Rattle.reuse_notice.specs.Tags.{notice_behind, notice_of}
use Rattle.reuse_notice.specs.Merging.{class_of, class_text, class_prefix, class_years, merged_as, merged}
use Rattle.reuse_notice.specs.Keeping.{IsWrittenOf}
use Rattle.std.proofs.lemmas.Bool.{cases_Bool as truth}
use Rattle.reuse_notice.proofs.PlainLemmas.{class-digits, and-parts, drop_front-kept}
use Rattle.reuse_notice.proofs.BlankLemmas.{all-drop_end, drop_end-twice}
use Rattle.reuse_notice.proofs.PrefixLemmas.{found_passes}
use Rattle.reuse_notice.proofs.SetLemmas.{In-from_contains, Contains-from_in, In-set_of}
use Rattle.reuse_notice.proofs.ClassLemmas.{In-from_map, class_text-is}

-- ---- what is left is not blank

all-drop_front : (test : ℕ → Bool) (xs : List ℕ) → list_all test (drop_front test xs) ≡ list_all test xs
unfolding drop_front
all-drop_front test [] = refl
all-drop_front test (x ∷ xs) = elim (truth (test x)) [
  | inl e ↦ rw e (all-drop_front test xs)
  | inr e ↦ rw e (rw e refl)
]

all-trimmed : (test : ℕ → Bool) (xs : List ℕ) → list_all test (trimmed test xs) ≡ list_all test xs
all-trimmed test xs = all-drop_end test (drop_front test xs) ∙ all-drop_front test xs

pub trimmed-twice : (test : ℕ → Bool) (xs : List ℕ) → trimmed test (trimmed test xs) ≡ trimmed test xs
trimmed-twice test xs = ap (drop_end test) (drop_front-kept test xs) ∙ drop_end-twice test (drop_front test xs)

-- blank bytes but for the first are blank
blank_rest : (xs : List ℕ) → all_blank xs ≡ true → all_blank (drop 1 xs) ≡ true
blank_rest [] e = refl
blank_rest (x ∷ xs) e = (and-parts (is_blank x) (all_blank xs) e).1

some_behind : (value : List ℕ) (n : ℕ) → all_blank (drop (n + 1) value) ≡ false → all_blank (drop n value) ≡ false
some_behind value n e = elim (truth (all_blank (drop n value))) [
  | inl t ↦ absurd (let clash = sym e ∙ ap all_blank (next n) ∙ blank_rest (drop n value) t in cc clash)
  | inr f ↦ f
]
  where
    next : (n : ℕ) → drop (n + 1) value ≡ drop 1 (drop n value)
    next n = sym (drop-drop 1 n value)

not_true : (b : Bool) → not b ≡ true → b ≡ false
not_true true e = absurd (cc e)
not_true false e = refl

-- years leave more than blank bytes behind
Leaves : List ℕ → ℕ → Type 0
Leaves value n = all_blank (drop n value) ≡ false

in_leaves : (value : List ℕ) (n : ℕ) (years : Years) → years_in n value ≡ Some years → Leaves value n
unfolding Leaves
in_leaves value n years e =
    by (nat_lt n (length value) && is_blank (slice_index value n) && not (all_blank (drop (n + 1) value))) refl e
  where
    by : (b : Bool)
        → (nat_lt n (length value) && is_blank (slice_index value n) && not (all_blank (drop (n + 1) value))) ≡ b
        → cond b (years_written (take n value)) None ≡ Some years → all_blank (drop n value) ≡ false
    by false t f = absurd (cc f)
    by true t f = some_behind value n (not_true (all_blank (drop (n + 1) value)) (and-parts
        (nat_lt n (length value) && is_blank (slice_index value n)) (not (all_blank (drop (n + 1) value))) t).1)

or_leaves : (value : List ℕ) (n : ℕ) (shorter : Option Years × ℕ) → Leaves value shorter.1
    → Leaves value (years_or (years_in n value) n shorter).1
or_leaves value n shorter h = by (years_in n value) refl
  where
    by : (o : Option Years) → years_in n value ≡ o → Leaves value (years_or o n shorter).1
    by None e = h
    by (Some years) e = in_leaves value n years e

front_leaves : (value : List ℕ) → all_blank value ≡ false → Leaves value (years_front value).1
unfolding Leaves
front_leaves value e =
    or_leaves value 11 (years_or (years_in 9 value) 9 (years_or (years_in 4 value) 4 (None, 0)))
    (or_leaves value 9 (years_or (years_in 4 value) 4 (None, 0)) (or_leaves value 4 (None, 0) e))

-- ---- the holder

pub holder_some : (text : List ℕ) (n : NoticeText) → notice_of text ≡ Some n → all_blank n.holder ≡ false
unfolding Leaves
holder_some text n e = by (prefix_of text) refl e
  where
    by : (o : Option Prefix) → prefix_of text ≡ o → option_map (notice_behind text) o ≡ Some n
        → all_blank n.holder ≡ false
    by None is e = absurd (cc e)
    by (Some p) is e =
        let same : notice_behind text p ≡ n = cc e in
        let rest = drop (length (prefix_text p)) text in
        let value = drop_front is_blank rest in
        let passes = found_passes (leaves_value text) longest_first p is in
        let some : all_blank rest ≡ false =
        not_true (all_blank rest) (and-parts (starts_with nat_eq text (prefix_text p)
        && (needs_no_space p || starts_with nat_eq rest (32 ∷ []))) (not (all_blank rest)) passes).1 in
        ap (λ (m : NoticeText). all_blank m.holder) (sym same)
        ∙ all-trimmed is_blank (drop (years_front value).1 value)
        ∙ front_leaves value (all-drop_front is_blank rest ∙ some)

pub holder_trimmed : (text : List ℕ) (n : NoticeText) → notice_of text ≡ Some n → trimmed is_blank n.holder ≡ n.holder
holder_trimmed text n e = by (prefix_of text) e
  where
    by : (o : Option Prefix) → option_map (notice_behind text) o ≡ Some n → trimmed is_blank n.holder ≡ n.holder
    by None e = absurd (cc e)
    by (Some p) e =
        let same : notice_behind text p ≡ n = cc e in
        let value = drop_front is_blank (drop (length (prefix_text p)) text) in
        subst (λ (m : NoticeText). trimmed is_blank m.holder ≡ m.holder) same
        (trimmed-twice is_blank (drop (years_front value).1 value))

-- ---- what a merge writes

pub merged_written : (command notices : List (List ℕ)) (text : List ℕ) → Contains (merged command notices) text
    → (Contains notices text) ⊎ ((old : List ℕ) × (Contains notices old) × IsWrittenOf old text)
merged_written command notices text h =
    let from = In-from_map (merged_as command notices) notices text
    (In-set_of (map (merged_as command notices) notices) text (In-from_contains (merged command notices) text h)) in
    by from.0 (Contains-from_in notices from.0 from.1) from.2 (notice_of from.0) refl
  where
    becomes : List ℕ → Option NoticeText → List ℕ
    becomes s o = unwrap_or (option_and_then (λ n. class_text command (class_of notices n.holder) n.holder) o) s

    by_class : (s : List ℕ) → Contains notices s → (n : NoticeText) → notice_of s ≡ Some n → (o : Option (List ℕ))
        → class_text command (class_of notices n.holder) n.holder ≡ o → text ≡ unwrap_or o s
        → (Contains notices text) ⊎ ((old : List ℕ) × (Contains notices old) × IsWrittenOf old text)
    by_class s c n is None e same = inl (subst (λ x. Contains notices x) (sym same) c)
    by_class s c n is (Some t) e same =
        let k = class_text-is command (class_of notices n.holder) n.holder t e in
        inr (
          s,
          c,
          record {
            notice = n;
            prefix = class_prefix command (class_of notices n.holder);
            years = class_years (class_of notices n.holder);
            read = is;
            digits = class-digits n.holder notices;
            written = same ∙ k.1.written;
          },
        )

    by : (s : List ℕ) → Contains notices s → text ≡ merged_as command notices s → (o : Option NoticeText)
        → notice_of s ≡ o → (Contains notices text) ⊎ ((old : List ℕ) × (Contains notices old) × IsWrittenOf old text)
    by s c same None is = inl (subst (λ x. Contains notices x) (sym (same ∙ ap (becomes s) is)) c)
    by s c same (Some n) is =
        by_class s c n is (class_text command (class_of notices n.holder) n.holder) refl (same ∙ ap (becomes s) is)
