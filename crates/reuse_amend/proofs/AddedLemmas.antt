-- Notices that are written as an addition is are read so, and are amended to such.
use Rattle.std.proofs.Common.{◌≡◌, ℕ, ◌≤◌, Bool, true, false, cond, List, [], ◌∷◌}
use Rattle.std.proofs.Common.{◌++◌, length, drop, Option, Some, None, refl, sym, ap, subst, ◌∙◌, arith}
use Rattle.std.proofs.Common.{append_assoc, inl, inr}
use Rattle.std.specs.Prelude.{◌||◌, ◌==◌, codes}
use Rattle.std.specs.Option.{option_map, option_map_or, option_and_then}
use Rattle.std.proofs.lemmas.Bool.{eqb-true, cases_Bool as truth}
use Rattle.std.proofs.lemmas.List.{append-nil}
use Rattle.std.proofs.Math.Seq.{drop-append_seam, drop-length}
use Rattle.reuse_notice.specs.declared.prefixes.Prefix.{Prefix}
use Rattle.reuse_notice.specs.declared.tags.Years.{Years}
use Rattle.reuse_notice.specs.Prefixes.{prefix_text}
use Rattle.reuse_notice.specs.Tags.{is_blank, drop_front, drop_end, needs_no_space}
use Rattle.reuse_notice.specs.Adding.{four_digits, years_text, notice_written}
use Rattle.reuse_notice.proofs.BlankLemmas.{drop_front-nil, drop_end-nil, drop_end-twice}
use Rattle.reuse_amend.specs.YearSpans.{SpanText, RunText, upto, span_to, span_front, next_span}
use Rattle.reuse_amend.specs.YearSpans.{run_of, run_front}
use Rattle.reuse_amend.specs.NoticeParts.{Parts, value_behind, holder_behind}
use Rattle.reuse_amend.specs.NoticeParts.{leaves_holder, if_leaves_holder, tail_of, cut_years_first, cut_holder_first}
use Rattle.reuse_amend.specs.NoticeParts.{parts_from, parts_behind, parts_of}
use Rattle.reuse_amend.specs.Amending.{range_text}
use Rattle.reuse_amend.specs.Settled.{CanBeWritten}
use Rattle.reuse_amend.proofs.EndLemmas.{upto_is}
use Rattle.reuse_amend.proofs.PartLemmas.{Anything, full_kept, full_some}
use Rattle.reuse_amend.proofs.ShapeLemmas.{IsWhole}
use Rattle.reuse_amend.proofs.ReadAgainLemmas.{year_again}
use Rattle.reuse_amend.proofs.AgainLemmas.{is_dated, IsApart, blanks_again}
use Rattle.reuse_amend.proofs.SpanAgainLemmas.{first_digit, spanned, lone_again, range_front}
use Rattle.reuse_amend.proofs.SpansLemmas.{spans_are}
use Rattle.reuse_amend.proofs.AlikeLemmas.{IsBehind, wide_found, dated_behind, dated_value, plain_value, IsStill}
use Rattle.reuse_amend.proofs.AlikeLemmas.{still_apart, still_last, still_behind, still_leaves}
use Rattle.reuse_amend.proofs.AdditionLemmas.{added, IsClear, no_run, tail_none}

-- ---- a notice without years

-- the parts of a notice, one by one
abbrev pub make : Prefix → Bool → List ℕ → List ℕ → List ℕ → List ℕ → List ℕ → Parts
make prefix first front years between holder trailing = record {
  prefix = prefix;
  front = front;
  years = years;
  between = between;
  holder = holder;
  trailing = trailing;
  years_first = first;
}

pub same_parts : (prefix : Prefix) (first : Bool) (a b c d e a' b' c' d' e' : List ℕ) → a ≡ a' → b ≡ b' → c ≡ c'
    → d ≡ d' → e ≡ e'
    → make prefix first a b c d e ≡ make prefix first a' b' c' d' e'
same_parts prefix first a b c d e a' b' c' d' e' p q r s t =
    ap (λ x. make prefix first x b c d e) p ∙ ap (λ x. make prefix first a' x c d e) q
    ∙ ap (λ x. make prefix first a' b' x d e) r
    ∙ ap (λ x. make prefix first a' b' c' x e) s ∙ ap (λ x. make prefix first a' b' c' d' x) t

whole_end : (holder : List ℕ) → IsWhole holder → drop_end is_blank holder ≡ holder
whole_end holder whole = ap (drop_end is_blank) (sym whole.trim)
    ∙ drop_end-twice is_blank (drop_front is_blank holder) ∙ whole.trim

clear_still : (holder : List ℕ) → IsClear holder → IsStill (drop_front is_blank holder)
clear_still holder clear = subst IsStill (sym (full_kept holder clear.full)) clear.still

spaced_still : (holder : List ℕ) → IsClear holder → IsStill (drop_front is_blank (32 ∷ holder))
spaced_still holder clear = subst IsStill (sym (blanks_again (32 ∷ []) holder refl clear.full)) clear.still

either : (t : Bool) → (t || true) ≡ true
either true = refl
either false = refl

read_none : (prefix : Prefix) (holder : List ℕ) → IsWhole holder → IsClear holder
    → parts_of (notice_written prefix None holder) ≡ Some (added prefix None holder)
read_none prefix holder whole clear =
    ap (option_map (parts_behind text)) (wide_found prefix (32 ∷ holder) behind)
    ∙ ap (λ r. Some (parts_from text prefix (value_behind r))) (drop-append_seam (prefix_text prefix) (32 ∷ holder))
    ∙ ap (λ v. Some (parts_from text prefix v))
    (plain_value (32 ∷ []) holder refl clear.full clear.colon clear.small clear.c clear.sign)
    ∙ ap (λ o. Some (option_map_or (cut_years_first text prefix holder) (option_and_then if_leaves_holder o)
    (cut_holder_first text prefix (holder_behind holder) (tail_of (holder_behind holder))))) (no_run holder clear.digit)
    ∙ ap (λ n. Some (cut_holder_first text prefix n (tail_of n)))
    (still_behind holder (clear_still holder clear) ∙ full_kept holder clear.full)
    ∙ ap (λ t. Some (cut_holder_first text prefix holder t)) (tail_none holder clear.comma)
    ∙ ap (λ p. Some p) parts
  where
    text : List ℕ
    text = prefix_text prefix ++ 32 ∷ holder

    behind : IsBehind prefix (32 ∷ holder)
    behind = record {
      c = clear.c;
      word = clear.word;
      sign = clear.sign;
      space = either
          (needs_no_space prefix);
      some = full_some holder clear.full;
    }

    whole_upto : upto holder [] ≡ holder
    whole_upto = upto_is Anything holder [] (record { front = holder; joined = sym (append-nil holder); holds = tt })

    dated : drop_front is_blank (drop 1 []) ≡ []
    dated = drop_front-nil is_blank

    held : drop_end is_blank (upto holder []) ≡ holder
    held = ap (drop_end is_blank) whole_upto ∙ whole_end holder whole

    no_dates : drop_end is_blank (drop_front is_blank (drop 1 [])) ≡ []
    no_dates = ap (drop_end is_blank) dated ∙ drop_end-nil is_blank

    parts : cut_holder_first text prefix holder [] ≡ added prefix None holder
    parts =
        same_parts prefix false _ _ _ _ _ (prefix_text prefix ++ codes " ") [] [] holder []
        (upto_is Anything text holder (record {
          front = prefix_text prefix ++ codes " ";
          joined = sym
              (append_assoc (prefix_text prefix) (codes " ") holder);
          holds = tt;
        }))
        no_dates
        (ap (λ h. drop (length h) (upto holder (drop_front is_blank (drop 1 [])))) held
        ∙ ap (λ d. drop (length holder) (upto holder d)) dated ∙ ap (drop (length holder)) whole_upto
        ∙ drop-length holder)
        held
        (ap (λ y. drop (length y) (drop_front is_blank (drop 1 []))) no_dates ∙ dated)

-- ---- a notice with years

-- a span that years are read as
pub record OneSpan (years : Years) (text other : List ℕ) : Type 0 where
  pub span : SpanText
  pub found : span_front text ≡ Some span
  pub start : span.start ≡ text
  pub rest : span.rest ≡ other
  pub low : span.low ≡ years.low
  pub high : span.high ≡ Some years.high
  pub dated : is_dated text ≡ true

pub one_span : (years : Years) (other : List ℕ) → CanBeWritten (Some years) → IsApart other
    → OneSpan years (years_text years ++ other) other
one_span years other can apart = elim (truth (years.low == years.high)) [
  | inl e ↦ (let same : years.low ≡ years.high = eqb-true years.low years.high e in
      let short : years.low ≤ 9999 = omega (arith, same, can.1) in
      let year = year_again years.low short in
      let text : four_digits years.low ++ other ≡ years_text years ++ other =
      ap (λ t. cond t (four_digits years.low) (four_digits years.low ++ codes " - " ++ four_digits years.high)
      ++ other) (sym e) in
      subst (λ t. OneSpan years t other) text (record {
        span = span_to (four_digits years.low ++ other) years.low (Some years.low, other);
        found = spanned (four_digits years.low) other years.low (Some years.low, other) year
            (lone_again years.low other apart);
        start = refl;
        rest = refl;
        low = refl;
        high = ap (λ (y : ℕ). Some y) same;
        dated = first_digit (four_digits years.low) years.low year other;
      }))
  | inr e ↦ (let text : range_text years.low years.high ++ other ≡ years_text years ++ other =
      ap (λ t. cond t (four_digits years.low) (four_digits years.low ++ codes " - " ++ four_digits years.high)
      ++ other) (sym e) in
      let order = can.0 in
      let short = can.1 in
      subst (λ t. OneSpan years t other) text (record {
        span = record {
          start = range_text years.low years.high
              ++ other;
          rest = other;
          low = years.low;
          high = Some years.high;
        };
        found = range_front years.low years.high other order short apart.word;
        start = refl;
        rest = refl;
        low = refl;
        high = refl;
        dated = first_digit (four_digits years.low) years.low (year_again years.low (omega (arith, order, short)))
            (codes " - " ++ four_digits years.high ++ other);
      }))
]

pub one_run : (years : Years) (text other : List ℕ) (one : OneSpan years text other) → next_span other ≡ None
    → run_front text ≡ Some (record { latest = one.span; rest = one.span.rest })
one_run years text other one last = ap run_of (spans_are text (one.span ∷ []) (one.found, ap next_span one.rest ∙ last))

read_some : (prefix : Prefix) (years : Years) (holder : List ℕ) → CanBeWritten (Some years) → IsWhole holder
    → IsClear holder
    → parts_of (notice_written prefix (Some years) holder) ≡ Some (added prefix (Some years) holder)
read_some prefix years holder can whole clear =
    ap parts_of joined
    ∙ ap (option_map (parts_behind text)) (wide_found prefix (32 ∷ value)
    (dated_behind prefix (32 ∷ []) value refl one.dated (either (needs_no_space prefix))))
    ∙ ap (λ r. Some (parts_from text prefix (value_behind r))) (drop-append_seam (prefix_text prefix) (32 ∷ value))
    ∙ ap (λ v. Some (parts_from text prefix v)) (dated_value (32 ∷ []) value refl one.dated)
    ∙ ap (λ o. Some (option_map_or (cut_years_first text prefix value) (option_and_then if_leaves_holder o)
    (cut_holder_first text prefix (holder_behind value) (tail_of (holder_behind value)))))
    (one_run years value (32 ∷ holder) one (still_last (32 ∷ holder) still))
    ∙ ap (λ t. Some (option_map_or (cut_years_first text prefix value) (cond t (Some run) None)
    (cut_holder_first text prefix (holder_behind value) (tail_of (holder_behind value))))) leaves
    ∙ ap (λ p. Some p) parts
  where
    value : List ℕ
    value = years_text years ++ 32 ∷ holder

    text : List ℕ
    text = prefix_text prefix ++ 32 ∷ value

    joined : notice_written prefix (Some years) holder ≡ text
    joined = append_assoc (prefix_text prefix) (32 ∷ years_text years) (32 ∷ holder)

    still : IsStill (drop_front is_blank (32 ∷ holder))
    still = spaced_still holder clear

    one : OneSpan years (years_text years ++ 32 ∷ holder) (32 ∷ holder)
    one = one_span years (32 ∷ holder) can (still_apart (32 ∷ holder) refl still)

    run : RunText
    run = record { latest = one.span; rest = one.span.rest }

    leaves : leaves_holder one.span.rest ≡ true
    leaves = ap leaves_holder one.rest ∙ still_leaves (32 ∷ holder) refl (full_some holder clear.full) still

    named : holder_behind one.span.rest ≡ holder
    named = ap holder_behind one.rest ∙ still_behind (32 ∷ holder) still ∙ blanks_again (32 ∷ []) holder refl clear.full

    parts : cut_years_first text prefix value run ≡ added prefix (Some years) holder
    parts =
        same_parts prefix true _ _ _ _ _ (prefix_text prefix ++ codes " ") (years_text years) (codes " ") holder []
        (upto_is Anything text value (record {
          front = prefix_text prefix ++ codes " ";
          joined = sym
              (append_assoc (prefix_text prefix) (codes " ") value);
          holds = tt;
        }))
        (ap (upto value) one.rest ∙ upto_is Anything value (32 ∷ holder)
        (record { front = years_text years; joined = refl; holds = tt }))
        (ap (λ r. upto r (holder_behind r)) one.rest ∙ ap (upto (32 ∷ holder)) (ap holder_behind (sym one.rest) ∙ named)
        ∙ upto_is Anything (32 ∷ holder) holder (record { front = codes " "; joined = refl; holds = tt }))
        (ap (drop_end is_blank) named ∙ whole_end holder whole)
        (ap (λ n. drop (length (drop_end is_blank n)) n) named
        ∙ ap (λ h. drop (length h) holder) (whole_end holder whole) ∙ drop-length holder)

pub read_added : (prefix : Prefix) (years : Option Years) (holder : List ℕ) → CanBeWritten years → IsWhole holder
    → IsClear holder
    → parts_of (notice_written prefix years holder) ≡ Some (added prefix years holder)
read_added prefix None holder can whole clear = read_none prefix holder whole clear
read_added prefix (Some years) holder can whole clear = read_some prefix years holder can whole clear
