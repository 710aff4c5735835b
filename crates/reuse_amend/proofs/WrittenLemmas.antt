-- What is written of a notice whose parts change: its bytes, its beginning and its end.
use Rattle.std.proofs.Common.{◌≡◌, ℕ, ◌≤◌, Bool, true, false, cond}
use Rattle.std.proofs.Common.{List, [], ◌∷◌, ◌++◌, length, take, drop, Option, Some, None, refl, sym, ap}
use Rattle.std.proofs.Common.{subst, ◌∙◌, arith, inl, inr, ◌⊎◌}
use Rattle.std.specs.Prelude.{codes, IsUtf8}
use Rattle.std.specs.Option.{option_map_or, option_and_then}
use lib.Utf8.{encode}
use Rattle.std.proofs.lemmas.List.{append-nil}
use Rattle.std.proofs.lemmas.Str.{IsUtf8-nil, IsUtf8-append}
use Rattle.reuse_notice.specs.declared.prefixes.Prefix.{Prefix}
use Rattle.reuse_notice.specs.declared.prefixes.Prefix.TheVariants.{Symbol}
use Rattle.reuse_notice.specs.Prefixes.{prefix_text}
use Rattle.reuse_notice.specs.Tags.{is_blank, all_blank, drop_front, drop_end, year_of}
use Rattle.reuse_notice.specs.Adding.{four_digits}
use Rattle.reuse_notice.proofs.BlankLemmas.{dropped_end}
use Rattle.reuse_notice.proofs.SoundLemmas.{IsSound, sound_append, sound_low, low_utf8, utf8_behind, utf8_before}
use Rattle.reuse_notice.proofs.SoundLemmas.{utf8_to_low}
use Rattle.reuse_notice.proofs.PlainLemmas.{year-short}
use Rattle.reuse_notice.proofs.NoticeSoundLemmas.{prefix_sound, digits_sound}
use Rattle.reuse_amend.specs.YearSpans.{SpanText, en_dash, upto, RunText, run_front}
use Rattle.reuse_amend.specs.NoticeParts.{Parts, first_of, last_of, parts_text, value_behind, holder_behind}
use Rattle.reuse_amend.specs.NoticeParts.{if_leaves_holder, tail_of, cut_years_first, cut_holder_first, parts_from}
use Rattle.reuse_amend.specs.NoticeParts.{parts_of}
use Rattle.reuse_amend.specs.declared.amendments.Amendments.{Amendments}
use Rattle.reuse_amend.specs.Amending.{range_text, is_before, span_until, years_until, is_front, front_with, concerns}
use Rattle.reuse_amend.specs.Amending.{if_concerned, parts_amended}
use Rattle.reuse_amend.specs.Settled.{HasFourDigits}
use Rattle.reuse_amend.proofs.EndLemmas.{Holds, IsEnd, upto_joined, upto_holds, blanks_low, end_further}
use Rattle.reuse_amend.proofs.EndLemmas.{end_blanks, run_read, run_end}
use Rattle.reuse_amend.proofs.PartLemmas.{Anything, end_holder, TailRead}
use Rattle.reuse_amend.proofs.JoinedLemmas.{rest_blank, between_split, tail_dated, parts_read, leading}
use Rattle.reuse_amend.proofs.JoinedLemmas.{tail_found, value_cut}

-- ---- UTF-8

dash_utf8 : IsUtf8 en_dash
unfolding encode
dash_utf8 = (8211 ∷ [], (refl, refl))

pub utf8_holds : Holds IsUtf8
utf8_holds = record {
  nil = IsUtf8-nil;
  join = λ a b p q. IsUtf8-append a b p q;
  low = λ bytes e. low_utf8 bytes e;
  sign = (prefix_sound Symbol).utf8;
  dash = dash_utf8;
}

end_utf8 : (text end : List ℕ) → IsEnd IsUtf8 text end → IsUtf8 text → IsUtf8 end
end_utf8 text end e u = utf8_behind e.front end (subst IsUtf8 e.joined u) e.holds

trimmed_utf8 : (xs : List ℕ) → IsUtf8 xs → IsUtf8 (drop_end is_blank xs)
trimmed_utf8 xs u =
    let d = dropped_end is_blank xs in
    utf8_before (drop_end is_blank xs) d.0 (subst IsUtf8 d.1 u) (low_utf8 d.0 (blanks_low d.0 d.2))

blank_utf8 : (xs : List ℕ) → all_blank xs ≡ true → IsUtf8 xs
blank_utf8 xs e = low_utf8 xs (blanks_low xs e)

-- each part of a notice
pub record AreUtf8Parts (p : Parts) : Type 0 where
  pub front : IsUtf8 p.front
  pub years : IsUtf8 p.years
  pub between : IsUtf8 p.between
  pub holder : IsUtf8 p.holder
  pub trailing : IsUtf8 p.trailing

years_utf8 : (text : List ℕ) (prefix : Prefix) (value : List ℕ) (run : RunText) → IsUtf8 text
    → IsEnd IsUtf8 text value → IsEnd IsUtf8 value run.rest
    → AreUtf8Parts (cut_years_first text prefix value run)
years_utf8 text prefix value run u cut rest =
    let named = holder_behind run.rest in
    let end = end_holder IsUtf8 utf8_holds run.rest in
    let named_utf8 = end_utf8 run.rest named end (end_utf8 value run.rest rest (end_utf8 text value cut u)) in
    record {
      front = upto_holds IsUtf8 text value cut;
      years = upto_holds IsUtf8 value run.rest rest;
      between = upto_holds IsUtf8 run.rest named end;
      holder = trimmed_utf8 named named_utf8;
      trailing = blank_utf8 (drop (length (drop_end is_blank named)) named) (rest_blank named);
    }

-- what stands in front of the years in a tail
tail_utf8 : (named tail : List ℕ) → TailRead named tail → IsUtf8 named
    → (IsUtf8 (upto named tail)) × (IsEnd IsUtf8 tail (drop_front is_blank (drop 1 tail))) × (IsUtf8 tail)
tail_utf8 named tail read u = elim read.first [
  | inl none ↦ (let whole : upto named tail ≡ named = sym (append-nil (upto named tail))
      ∙ ap (λ t. upto named tail ++ t) (sym none) ∙ joined in (
        subst IsUtf8 (sym whole) u,
        subst (λ t. IsEnd IsUtf8 t (drop_front is_blank (drop 1 t))) (sym none)
            (end_blanks IsUtf8 utf8_holds []),
        subst IsUtf8 (sym none) IsUtf8-nil,
      ))
  | inr some ↦ (let before : IsUtf8 (upto named tail) =
      utf8_to_low (upto named tail) some.0 44 (subst IsUtf8 (sym joined ∙ ap (λ t. upto named tail ++ t) some.1) u)
      (omega arith) in (
        before,
        subst (λ t. IsEnd IsUtf8 t (drop_front is_blank (drop 1 t))) (sym some.1)
            (end_further IsUtf8 utf8_holds (44 ∷ some.0) some.0 (drop_front is_blank some.0)
            (record { front = 44 ∷ []; joined = refl; holds = low_utf8 (44 ∷ []) refl })
            (end_blanks IsUtf8 utf8_holds some.0)),
        utf8_behind (upto named tail) tail (subst IsUtf8 (sym joined) u) before,
      ))
]
  where
    joined : upto named tail ++ tail ≡ named
    joined = upto_joined Anything named tail read.cut

holder_utf8 : (text : List ℕ) (prefix : Prefix) (named tail : List ℕ) → IsUtf8 text → IsEnd IsUtf8 text named
    → TailRead named tail
    → AreUtf8Parts (cut_holder_first text prefix named tail)
holder_utf8 text prefix named tail u cut read =
    let dated = drop_front is_blank (drop 1 tail) in
    let t = tail_utf8 named tail read (end_utf8 text named cut u) in
    let dated_utf8 = end_utf8 tail dated t.1 t.2 in
    let split = between_split named tail dated read.cut (tail_dated named tail read) in
    record {
      front = upto_holds IsUtf8 text named cut;
      years = trimmed_utf8 dated dated_utf8;
      between = subst IsUtf8 (sym split.2) (IsUtf8-append split.0 (upto tail dated) (blank_utf8 split.0 split.1)
          (upto_holds IsUtf8 tail dated t.1));
      holder = trimmed_utf8 (upto named tail) t.0;
      trailing = blank_utf8 (drop (length (drop_end is_blank dated)) dated) (rest_blank dated);
    }

pub parts_utf8 : (text : List ℕ) (p : Parts) → parts_of text ≡ Some p → IsUtf8 text → AreUtf8Parts p
parts_utf8 text p e u =
    let read = parts_read text p e in
    subst AreUtf8Parts read.same (by_value read.prefix (value_behind (drop (length (prefix_text read.prefix)) text))
    (value_cut IsUtf8 utf8_holds text read.prefix (prefix_sound read.prefix).utf8 read.found))
  where
    by_value : (prefix : Prefix) (value : List ℕ) → IsEnd IsUtf8 text value
        → AreUtf8Parts (parts_from text prefix value)
    by_value prefix value cut = by (option_and_then if_leaves_holder (run_front value)) refl
      where
        named : List ℕ
        named = holder_behind value

        by : (o : Option RunText) → option_and_then if_leaves_holder (run_front value) ≡ o
            → AreUtf8Parts (option_map_or (cut_years_first text prefix value) o
            (cut_holder_first text prefix named (tail_of named)))
        by None e' =
            holder_utf8 text prefix named (tail_of named) u
            (end_further IsUtf8 utf8_holds text value named cut (end_holder IsUtf8 utf8_holds value)) (tail_found named)
        by (Some run) e' =
            let first = leading value run e' in
            years_utf8 text prefix value run u cut (run_end IsUtf8 utf8_holds value run
            (run_read IsUtf8 utf8_holds value run first.found))

-- ---- years that reach a year

pub span_low : (text : List ℕ) (span : SpanText) → year_of (take 4 text) ≡ Some span.low → span.low ≤ 9999
span_low text span e = year-short (take 4 text) span.low e

pub range_sound : (low high : ℕ) → low ≤ 9999 → high ≤ 9999 → IsSound (range_text low high)
range_sound low high a b =
    sound_append (four_digits low ++ codes " - ") (four_digits high)
    (sound_append (four_digits low) (codes " - ") (digits_sound low a) (sound_low (codes " - ") refl refl))
    (digits_sound high b)

-- years stay, or a span of them becomes one that reaches the year
pub record Reaches (year : ℕ) (years new : List ℕ) : Type 0 where
  pub run : RunText
  pub found : run_front years ≡ Some run
  pub before : is_before year run.latest.high ≡ true
  pub written : upto years run.latest.start ++ range_text run.latest.low year ++ run.latest.rest ≡ new

pub until_reaches : (year : ℕ) (years new : List ℕ) → years_until year years ≡ new
    → (years ≡ new) ⊎ Reaches year years new
until_reaches year years new e = by (run_front years) refl e
  where
    by_test : (run : RunText) → run_front years ≡ Some run → (t : Bool) → is_before year run.latest.high ≡ t
        → cond t (upto years run.latest.start ++ range_text run.latest.low year ++ run.latest.rest) years ≡ new
        → (years ≡ new) ⊎ Reaches year years new
    by_test run is true before same = inr (record { run = run; found = is; before = before; written = same })
    by_test run is false before same = inl same

    by : (o : Option RunText) → run_front years ≡ o → option_map_or (λ run. span_until year years run.latest) o years
        ≡ new
        → (years ≡ new) ⊎ Reaches year years new
    by None is same = inl same
    by (Some run) is same = by_test run is (is_before year run.latest.high) refl same

pub until_utf8 : (year : ℕ) (years new : List ℕ) → year ≤ 9999 → years_until year years ≡ new → IsUtf8 years
    → IsUtf8 new
until_utf8 year years new short e u = elim (until_reaches year years new e) [
  | inl same ↦ subst IsUtf8 same u
  | inr r ↦ (let run = r.run in
      let read = run_read IsUtf8 utf8_holds years run r.found in
      let before = upto_holds IsUtf8 years run.latest.start read.start in
      let rest = end_utf8 run.latest.start run.latest.rest read.span_is.cut
      (end_utf8 years run.latest.start read.start u) in
      let low = span_low run.latest.start run.latest read.span_is.digits in
      let range = (range_sound run.latest.low year low short).utf8 in
      subst IsUtf8 r.written (IsUtf8-append (upto years run.latest.start
      ++ range_text run.latest.low year) run.latest.rest
      (IsUtf8-append (upto years run.latest.start) (range_text run.latest.low year) before range) rest))
]

-- ---- the parts amended

-- what holds of each part holds of the whole
pub five_utf8 : (p : Parts) → AreUtf8Parts p → IsUtf8 (parts_text p)
five_utf8 p u =
    IsUtf8-append (p.front ++ first_of p ++ p.between ++ last_of p) p.trailing
    (IsUtf8-append (p.front ++ first_of p ++ p.between) (last_of p)
    (IsUtf8-append (p.front ++ first_of p) p.between (IsUtf8-append p.front (first_of p) u.front
    (first p.years_first)) u.between)
    (last p.years_first)) u.trailing
  where
    first : (t : Bool) → IsUtf8 (cond t p.years p.holder)
    first true = u.years
    first false = u.holder

    last : (t : Bool) → IsUtf8 (cond t p.holder p.years)
    last true = u.holder
    last false = u.years

front_utf8 : (p : Parts) → IsUtf8 p.front → (o : Option Prefix) → IsUtf8 (option_map_or (front_with p) o p.front)
front_utf8 p u None = u
front_utf8 p u (Some prefix) = by (is_front prefix p)
  where
    by : (t : Bool) → IsUtf8 (cond t p.front (prefix_text prefix ++ codes " "))
    by true = u
    by false = IsUtf8-append (prefix_text prefix) (codes " ") (prefix_sound prefix).utf8 (low_utf8 (codes " ") refl)

reached_utf8 : (years : List ℕ) → IsUtf8 years → (o : Option ℕ) → HasFourDigits o
    → IsUtf8 (option_map_or (λ year. years_until year years) o years)
reached_utf8 years u None short = u
reached_utf8 years u (Some year) short = until_utf8 year years (years_until year years) short refl u

pub chosen_short : (a : Amendments) (holder : List ℕ) → HasFourDigits a.until
    → HasFourDigits (if_concerned a holder a.until)
chosen_short a holder short = by (concerns a holder)
  where
    by : (t : Bool) → HasFourDigits (cond t a.until None)
    by true = short
    by false = tt

pub amended_utf8 : (a : Amendments) (p : Parts) (holder : List ℕ) → HasFourDigits a.until → AreUtf8Parts p
    → IsUtf8 holder
    → IsUtf8 (parts_text (parts_amended a p holder))
amended_utf8 a p holder short u h =
    five_utf8 (parts_amended a p holder) (record {
      front = front_utf8 p u.front (if_concerned a holder a.prefix);
      years = reached_utf8 p.years u.years (if_concerned a holder a.until) (chosen_short a holder short);
      between = u.between;
      holder = h;
      trailing = u.trailing;
    })
