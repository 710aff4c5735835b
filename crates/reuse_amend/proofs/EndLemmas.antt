-- Ends of a text, as a notice is read in them, and the bytes in front of each.
use Rattle.std.proofs.Common.{◌≡◌, ℕ, zero, suc, ◌+◌, ◌-◌, ◌*◌, ◌<◌, ◌≤◌, nat_eq, Bool, true, false, cond, List, []}
use Rattle.std.proofs.Common.{◌∷◌, ◌++◌, length, length-append, take, drop, Option, Some, None, refl, sym, ap, subst}
use Rattle.std.proofs.Common.{◌∙◌, arith, append_assoc, inl, inr}
use Rattle.std.specs.Prelude.{◌&&◌, codes, unwrap_or, fold}
use Rattle.std.specs.List.{starts_with, list_all}
use Rattle.std.specs.Option.{option_map, option_and_then, option_or}
use Rattle.std.specs.Char.{is_ascii_digit}
use Rattle.std.proofs.lemmas.Bool.{and_parts, le-leb}
use Rattle.std.proofs.lemmas.Bool.Decides.{Decides-eqb, nat_tests}
use Rattle.std.proofs.lemmas.List.{take-append-drop}
use Rattle.std.proofs.lemmas.Slice.Eq.{starts_is}
use Rattle.std.proofs.Math.Seq.{take-append_seam}
use Rattle.reuse_notice.specs.Prefixes.{copyright_sign}
use Rattle.reuse_notice.specs.Tags.{is_blank, drop_front, year_of}
use Rattle.reuse_notice.proofs.SoundLemmas.{is_low}
use Rattle.reuse_amend.proofs.ChoiceLemmas.{not_some, was_some, then_some, either_some, if_some}
use Rattle.reuse_amend.specs.YearSpans.{SpanText, en_dash, ends_word, upto, behind, if_word_ends, behind_word}
use Rattle.reuse_amend.specs.YearSpans.{year_front, today_front, end_front, is_in_order, if_in_order, behind_dash}
use Rattle.reuse_amend.specs.YearSpans.{range_end, lone_end, span_to, span_from, span_front, behind_and, past_and}
use Rattle.reuse_amend.specs.YearSpans.{separated, next_span, spans_from, ends_by, RunText, with_span, run_of}
use Rattle.reuse_amend.specs.YearSpans.{run_front}

-- ---- ends

-- what holds of bytes in front of an end: of none, of two together, of ASCII, of a sign and of an en dash
pub record Holds (P : List ℕ → Type 0) : Type 0 where
  pub nil : P []
  pub join : (a b : List ℕ) → P a → P b → P (a ++ b)
  pub low : (bytes : List ℕ) → list_all is_low bytes ≡ true → P bytes
  pub sign : P copyright_sign
  pub dash : P en_dash

-- an end of a text
pub record IsEnd (P : List ℕ → Type 0) (text end : List ℕ) : Type 0 where
  pub front : List ℕ
  pub joined : text ≡ front ++ end
  pub holds : P front

pub upto_is : (P : List ℕ → Type 0) (text end : List ℕ) (e : IsEnd P text end) → upto text end ≡ e.front
upto_is P text end e =
    let n = length-append e.front end in
    let size : length text - length end ≡ length e.front = omega (arith, ap length e.joined, n) in
    ap (λ k. take k text) size ∙ ap (take (length e.front)) e.joined ∙ take-append_seam e.front end

pub upto_joined : (P : List ℕ → Type 0) (text end : List ℕ) → IsEnd P text end → upto text end ++ end ≡ text
upto_joined P text end e = ap (λ f. f ++ end) (upto_is P text end e) ∙ sym e.joined

pub upto_holds : (P : List ℕ → Type 0) (text end : List ℕ) → IsEnd P text end → P (upto text end)
upto_holds P text end e = subst P (sym (upto_is P text end e)) e.holds

-- ---- bytes that are dropped

blank_low : (b : ℕ) → is_blank b ≡ true → is_low b ≡ true
blank_low b e = grind (arith, nat_tests)

pub dropped : (xs : List ℕ) → (front : List ℕ) × (xs ≡ front ++ drop_front is_blank xs)
    × (list_all is_blank front ≡ true)
unfolding drop_front
dropped [] = ([], refl, refl)
dropped (x ∷ xs) = by (is_blank x) refl (dropped xs)
  where
    by : (t : Bool) → is_blank x ≡ t → (front : List ℕ) × (xs ≡ front ++ drop_front is_blank xs)
        × (list_all is_blank front ≡ true)
        → (front : List ℕ) × (x ∷ xs ≡ front ++ cond t (drop_front is_blank xs) (x ∷ xs))
        × (list_all is_blank front ≡ true)
    by true e again =
        (x ∷ again.0, ap (λ ys. x ∷ ys) again.1, ap (λ t. t && list_all is_blank again.0) e ∙ again.2)
    by false e again = ([], refl, refl)

-- bytes that pass a test of ASCII are ASCII
module _ (test : ℕ → Bool) (low : (b : ℕ) → test b ≡ true → is_low b ≡ true) where
  pub all_low : (xs : List ℕ) → list_all test xs ≡ true → list_all is_low xs ≡ true
  all_low [] e = refl
  all_low (x ∷ xs) e =
      let p = and_parts (test x) (list_all test xs) e in
      ap (λ t. t && list_all is_low xs) (low x p.0) ∙ all_low xs p.1

pub blanks_low : (xs : List ℕ) → list_all is_blank xs ≡ true → list_all is_low xs ≡ true
blanks_low = all_low is_blank blank_low

-- what a year is written with
digit_low : (b : ℕ) → is_ascii_digit b ≡ true → is_low b ≡ true
digit_low b e = grind (arith, nat_tests)

pub year_digits : (text : List ℕ) (year : ℕ) → year_of text ≡ Some year → list_all is_ascii_digit text ≡ true
year_digits [] year e = refl
year_digits (a ∷ []) year e = absurd (not_some year e)
year_digits (a ∷ b ∷ []) year e = absurd (not_some year e)
year_digits (a ∷ b ∷ c ∷ []) year e = absurd (not_some year e)
year_digits (a ∷ b ∷ c ∷ d ∷ []) year e =
    (if_some (list_all is_ascii_digit (a ∷ b ∷ c ∷ d ∷ [])) (Some
    ((a - 48) * 1000 + (b - 48) * 100 + (c - 48) * 10 + (d - 48))) year e).0
year_digits (a ∷ b ∷ c ∷ d ∷ f ∷ text) year e = absurd (not_some year e)

pub year_low : (text : List ℕ) (year : ℕ) → year_of text ≡ Some year → list_all is_low text ≡ true
year_low text year e = all_low is_ascii_digit digit_low text (year_digits text year e)

-- a year has four bytes
pub year_size : (text : List ℕ) (year : ℕ) → year_of text ≡ Some year → length text ≡ 4
year_size [] year e = absurd (not_some year e)
year_size (a ∷ []) year e = absurd (not_some year e)
year_size (a ∷ b ∷ []) year e = absurd (not_some year e)
year_size (a ∷ b ∷ c ∷ []) year e = absurd (not_some year e)
year_size (a ∷ b ∷ c ∷ d ∷ []) year e = refl
year_size (a ∷ b ∷ c ∷ d ∷ f ∷ text) year e = absurd (not_some year e)

module _ (P : List ℕ → Type 0) (h : Holds P) where
  pub end_self : (text : List ℕ) → IsEnd P text text
  end_self text = record { front = []; joined = refl; holds = h.nil }

  abbrev pub end_further : (text middle end : List ℕ) → IsEnd P text middle → IsEnd P middle end → IsEnd P text end
  end_further text middle end a b = record {
    front = a.front ++ b.front;
    joined = a.joined ∙ ap (λ m. a.front ++ m) b.joined ∙ sym (append_assoc a.front b.front end);
    holds = h.join a.front b.front a.holds b.holds;
  }

  end_is : (text end other : List ℕ) → end ≡ other → IsEnd P text end → IsEnd P text other
  end_is text end other e = subst (IsEnd P text) e

  -- ---- pieces of a text

  pub end_blanks : (text : List ℕ) → IsEnd P text (drop_front is_blank text)
  end_blanks text = let d = dropped text in record { front = d.0; joined = d.1; holds = h.low d.0 (blanks_low d.0 d.2) }

  pub end_behind : (lead text rest : List ℕ) → P lead → behind lead text ≡ Some rest → IsEnd P text rest
  end_behind lead text rest p e =
      let is = if_some (starts_with nat_eq text lead) (Some (drop (length lead) text)) rest e in
      let same : drop (length lead) text ≡ rest = cc is.1 in
      end_is text (drop (length lead) text) rest same
      (record { front = lead; joined = (starts_is Decides-eqb text lead _ refl).0 is.0; holds = p })

  word_ends : (rest other : List ℕ) → if_word_ends rest ≡ Some other → (rest ≡ other) × (ends_word other ≡ true)
  word_ends rest other e =
      let is = if_some (ends_word rest) (Some rest) other e in
      let same : rest ≡ other = cc is.1 in
      (same, ap ends_word (sym same) ∙ is.0)

  pub end_word : (word text rest : List ℕ) → P word → behind_word word text ≡ Some rest → IsEnd P text rest
  end_word word text rest p e =
      let is = then_some if_word_ends (behind word text) rest e in
      end_is text is.0 rest (word_ends is.0 rest is.2).0 (end_behind word text is.0 p is.1)

  -- ---- a span

  -- a year that is read, the word's end behind it, and what follows
  pub record YearRead (text : List ℕ) (year : ℕ × List ℕ) : Type 0 where
    pub digits : year_of (take 4 text) ≡ Some year.0
    pub behind_is : drop 4 text ≡ year.1
    pub word : ends_word year.1 ≡ true
    pub cut : IsEnd P text year.1

  end_digits : (text : List ℕ) (year : ℕ) → year_of (take 4 text) ≡ Some year → IsEnd P text (drop 4 text)
  end_digits text year e = record {
    front = take 4 text;
    joined = sym (take-append-drop 4 text);
    holds = h.low (take 4 text) (year_low (take 4 text) year e);
  }

  pub year_read : (text : List ℕ) (year : ℕ × List ℕ) → year_front text ≡ Some year → YearRead text year
  year_read text year e =
      let is = if_some (ends_word (drop 4 text)) (option_map (λ (y : ℕ). (y, drop 4 text))
      (year_of (take 4 text))) year e in
      let was = was_some (λ (y : ℕ). (y, drop 4 text)) (year_of (take 4 text)) year is.1 in
      let number : was.0 ≡ year.0 = ap (λ (p : ℕ × List ℕ). p.0) was.2 in
      let same : drop 4 text ≡ year.1 = ap (λ (p : ℕ × List ℕ). p.1) was.2 in
      record {
        digits = was.1 ∙ ap (λ (y : ℕ). Some y) number;
        behind_is = same;
        word = ap ends_word (sym same) ∙ is.0;
        cut = end_is text (drop 4 text) year.1 same (end_digits text was.0 was.1);
      }

  -- the end of a span that is read
  pub record EndRead (text : List ℕ) (end : Option ℕ × List ℕ) : Type 0 where
    pub word : ends_word end.1 ≡ true
    pub cut : IsEnd P text end.1

  today_read : (word text rest : List ℕ) → list_all is_low word ≡ true → behind_word word text ≡ Some rest
      → EndRead text (None, rest)
  today_read word text rest low e =
      let is = then_some if_word_ends (behind word text) rest e in
      record { word = (word_ends is.0 rest is.2).1; cut = end_word word text rest (h.low word low) e }

  some_today : (text rest : List ℕ) → today_front text ≡ Some rest → EndRead text (None, rest)
  some_today text rest e = elim (either_some (behind_word (codes "present") text)
      (option_or (behind_word (codes "now") text) (behind_word (codes "today") text)) rest e) [
        | inl is ↦ today_read (codes "present") text rest refl is
        | inr other ↦
            elim (either_some (behind_word (codes "now") text) (behind_word (codes "today") text) rest other) [
              | inl is ↦ today_read (codes "now") text rest refl is
              | inr is ↦ today_read (codes "today") text rest refl is
            ]
      ]

  pub end_read : (text : List ℕ) (end : Option ℕ × List ℕ) → end_front text ≡ Some end → EndRead text end
  end_read text end e = elim (either_some (option_map (λ (y : ℕ × List ℕ). (Some y.0, y.1)) (year_front text))
      (option_map (λ (rest : List ℕ). (None, rest)) (today_front text)) end e) [
        | inl is ↦ (let was = was_some (λ (y : ℕ × List ℕ). (Some y.0, y.1)) (year_front text) end is in
            let year = year_read text was.0 was.1 in
            subst (EndRead text) was.2 (record { word = year.word; cut = year.cut }))
        | inr is ↦ (let was = was_some (λ (rest : List ℕ). (None, rest)) (today_front text) end is in
            subst (EndRead text) was.2 (some_today text was.0 was.1))
      ]

  end_dash : (text rest : List ℕ) → behind_dash text ≡ Some rest → IsEnd P text rest
  end_dash text rest e =
      let was = was_some (drop_front is_blank) (option_or (behind (codes "-") text) (behind en_dash text)) rest e in
      let first = elim (either_some (behind (codes "-") text)
      (behind en_dash text) was.0 was.1) as (λ _. IsEnd P text was.0) [
        | inl is ↦ end_behind (codes "-") text was.0 (h.low (codes "-") refl) is
        | inr is ↦ end_behind en_dash text was.0 h.dash is
      ] in
      end_is text (drop_front is_blank was.0) rest was.2 (end_further text was.0 (drop_front is_blank was.0) first
      (end_blanks was.0))

  -- the end of a range that is read, from what follows the first year
  pub record RangeRead (low : ℕ) (text : List ℕ) (end : Option ℕ × List ℕ) : Type 0 where
    pub word : ends_word end.1 ≡ true
    pub order : is_in_order low end.0 ≡ true
    pub cut : IsEnd P text end.1

  range_read : (low : ℕ) (text : List ℕ) (end : Option ℕ × List ℕ) → range_end low text ≡ Some end
      → RangeRead low text end
  range_read low text end e =
      let front = drop_front is_blank text in
      let ordered = then_some (if_in_order low) (option_and_then end_front (behind_dash front)) end e in
      let is = if_some (is_in_order low ordered.0.0) (Some ordered.0) end ordered.2 in
      let same : ordered.0 ≡ end = cc is.1 in
      let dashed = then_some end_front (behind_dash front) ordered.0 ordered.1 in
      let last = end_read dashed.0 ordered.0 dashed.2 in
      subst (RangeRead low text) same (record {
        word = last.word;
        order = is.0;
        cut = end_further text front ordered.0.1 (end_blanks text)
            (end_further front dashed.0 ordered.0.1 (end_dash front dashed.0 dashed.1) last.cut);
      })

  lone_read : (year : ℕ) (text : List ℕ) (end : Option ℕ × List ℕ) → lone_end year text ≡ Some end
      → RangeRead year text end
  lone_read year text end e =
      let was = was_some (λ (rest : List ℕ). (Some year, rest)) (if_word_ends text) end e in
      let word = word_ends text was.0 was.1 in
      subst (RangeRead year text) was.2 (record {
        word = word.1;
        order = le-leb year year
            (omega arith);
        cut = end_is text text was.0 word.0 (end_self text);
      })

  -- a span that is read
  pub record SpanRead (text : List ℕ) (span : SpanText) : Type 0 where
    pub begins : text ≡ span.start
    pub digits : year_of (take 4 text) ≡ Some span.low
    pub order : is_in_order span.low span.high ≡ true
    pub word : ends_word span.rest ≡ true
    pub cut : IsEnd P text span.rest
    pub shorter : length span.rest < length text

  shorter_end : (text end : List ℕ) → IsEnd P text end → length end ≤ length text
  shorter_end text end e = let n = length-append e.front end in omega (arith, ap length e.joined, n)

  pub span_read : (text : List ℕ) (span : SpanText) → span_front text ≡ Some span → SpanRead text span
  span_read text span e =
      let digits = then_some (span_from text) (year_of (take 4 text)) span e in
      let rest = drop 4 text in
      let was = was_some (span_to text digits.0) (option_or (range_end digits.0 rest)
      (lone_end digits.0 rest)) span digits.2 in
      let last = elim (either_some (range_end digits.0 rest) (lone_end digits.0 rest) was.0 was.1) as (λ _.
      RangeRead digits.0 rest was.0) [
        | inl is ↦ range_read digits.0 rest was.0 is
        | inr is ↦ lone_read digits.0 rest was.0 is
      ] in
      let first = end_digits text digits.0 digits.1 in
      let size = year_size (take 4 text) digits.0 digits.1 in
      let whole = ap length (take-append-drop 4 text) in
      let both = length-append (take 4 text) rest in
      let less = shorter_end rest was.0.1 last.cut in
      subst (SpanRead text) was.2 (record {
        begins = refl;
        digits = digits.1;
        order = last.order;
        word = last.word;
        cut = end_further text rest was.0.1 first last.cut;
        shorter = omega (arith, size, whole, both, less);
      })

  -- ---- several spans

  end_and : (text rest : List ℕ) → behind_and text ≡ Some rest → IsEnd P text rest
  end_and text rest e =
      let was = was_some (drop_front is_blank) (option_or (behind (codes "&") text)
      (behind_word (codes "and") text)) rest e in
      let first = elim (either_some (behind (codes "&") text)
      (behind_word (codes "and") text) was.0 was.1) as (λ _. IsEnd P text was.0) [
        | inl is ↦ end_behind (codes "&") text was.0 (h.low (codes "&") refl) is
        | inr is ↦ end_word (codes "and") text was.0 (h.low (codes "and") refl) is
      ] in
      end_is text (drop_front is_blank was.0) rest was.2 (end_further text was.0 (drop_front is_blank was.0) first
      (end_blanks was.0))

  end_past_and : (text : List ℕ) → IsEnd P text (past_and text)
  end_past_and text = by (behind_and text) refl
    where
      by : (o : Option (List ℕ)) → behind_and text ≡ o → IsEnd P text (unwrap_or o text)
      by None is = end_self text
      by (Some rest) is = end_and text rest is

  pub end_separated : (text rest : List ℕ) → separated text ≡ Some rest → IsEnd P text rest
  end_separated text rest e =
      let front = drop_front is_blank text in
      end_further text front rest (end_blanks text) (elim (either_some
      (option_map (λ (more : List ℕ). past_and (drop_front is_blank more)) (behind (codes ",") front))
      (behind_and front) rest e) as (λ _. IsEnd P front rest) [
        | inl is ↦ (let was = was_some (λ (more : List ℕ). past_and (drop_front is_blank more))
            (behind (codes ",") front) rest is in
            let more = drop_front is_blank was.0 in
            end_is front (past_and more) rest was.2 (end_further front was.0 (past_and more)
            (end_behind (codes ",") front was.0 (h.low (codes ",") refl) was.1)
            (end_further was.0 more (past_and more) (end_blanks was.0) (end_past_and more))))
        | inr is ↦ end_and front rest is
      ])

  -- the span that follows, read
  pub record NextRead (text : List ℕ) (span : SpanText) : Type 0 where
    pub start : IsEnd P text span.start
    pub span_is : SpanRead span.start span

  pub next_read : (text : List ℕ) (span : SpanText) → next_span text ≡ Some span → NextRead text span
  next_read text span e =
      let is = then_some span_front (separated text) span e in
      let read = span_read is.0 span is.2 in
      record {
        start = end_is text is.0 span.start read.begins (end_separated text is.0 is.1);
        span_is = subst (λ t. SpanRead t span) read.begins read;
      }

  -- spans that are read: the one that ends last, and what follows them
  pub record RunRead (text : List ℕ) (run : RunText) : Type 0 where
    pub start : IsEnd P text run.latest.start
    pub span_is : SpanRead run.latest.start run.latest
    pub rest : IsEnd P run.latest.rest run.rest

  with_read : (text : List ℕ) (run : RunText) (span : SpanText) → RunRead text run → next_span run.rest ≡ Some span
      → RunRead text (with_span run span)
  with_read text run span read e =
      let next = next_read run.rest span e in
      let more : IsEnd P run.rest span.rest = end_further run.rest span.start span.rest next.start next.span_is.cut in
      by (ends_by run.latest.high span.high) next more
    where
      by : (t : Bool) → NextRead run.rest span → IsEnd P run.rest span.rest
          → RunRead text (record { latest = cond t span run.latest; rest = span.rest })
      by true next more = record {
        start = end_further text run.latest.start span.start read.start
            (end_further run.latest.start run.latest.rest span.start read.span_is.cut
            (end_further run.latest.rest run.rest span.start read.rest next.start));
        span_is = next.span_is;
        rest = end_self span.rest;
      }
      by false next more = record {
        start = read.start;
        span_is = read.span_is;
        rest = end_further run.latest.rest run.rest span.rest read.rest more;
      }

  fold_read : (n : ℕ) (text : List ℕ) (run : RunText) → RunRead text run
      → RunRead text (fold with_span run (spans_from n (next_span run.rest)))
  unfolding spans_from
  fold_read zero text run read = read
  fold_read (suc n) text run read = by (next_span run.rest) refl
      (λ span e. fold_read n text (with_span run span) (with_read text run span read e))
    where
      by : (o : Option SpanText) → next_span run.rest ≡ o
          → ((span : SpanText) → next_span run.rest ≡ Some span
          → RunRead text (fold with_span (with_span run span) (spans_from n (next_span span.rest))))
          → RunRead text (fold with_span run (spans_from (suc n) o))
      by None is again = read
      by (Some span) is again = again span is

  pub run_read : (text : List ℕ) (run : RunText) → run_front text ≡ Some run → RunRead text run
  unfolding spans_from
  run_read text run e = by (length text) (span_front text) refl e
    where
      by : (n : ℕ) (o : Option SpanText) → span_front text ≡ o → run_of (spans_from n o) ≡ Some run → RunRead text run
      by zero o is e' = absurd (not_some run e')
      by (suc n) None is e' = absurd (not_some run e')
      by (suc n) (Some span) is e' =
          let read = span_read text span is in
          let same : fold with_span (record { latest = span; rest = span.rest }) (spans_from n (next_span span.rest))
          ≡ run = cc e' in
          subst (RunRead text) same (fold_read n text (record { latest = span; rest = span.rest }) (record {
            start = end_is text text span.start read.begins (end_self text);
            span_is = subst (λ t. SpanRead t span) read.begins read;
            rest = end_self span.rest;
          }))

  -- what follows the spans
  pub run_end : (text : List ℕ) (run : RunText) → RunRead text run → IsEnd P text run.rest
  run_end text run read =
      end_further text run.latest.start run.rest read.start
      (end_further run.latest.start run.latest.rest run.rest read.span_is.cut read.rest)
