-- The spans of a text of which one is written anew: the others stay.
use Rattle.std.proofs.Common.{◌≡◌, ℕ, zero, suc, ◌<◌, ◌≤◌, Bool, true, false, cond, List, [], ◌∷◌, ◌++◌}
use Rattle.std.proofs.Common.{length, length-append, Option, Some, None, refl, sym, ap, subst, ◌∙◌, arith}
use Rattle.std.proofs.Common.{append_assoc}
use Rattle.std.specs.Prelude.{fold}
use Rattle.std.specs.List.{AllByRecursion}
use Rattle.std.specs.Option.{option_and_then}
use Rattle.std.proofs.lemmas.Bool.{false≢true, leb-true, le-leb}
use Rattle.std.proofs.lemmas.Bool.Decides.{nat_tests}
use Rattle.std.proofs.lemmas.List.{append-nil}
use Rattle.reuse_amend.specs.YearSpans.{SpanText, RunText, separated, next_span, span_front}
use Rattle.reuse_amend.specs.YearSpans.{spans_from, spans_of, ends_by, with_span, run_of}
use Rattle.reuse_amend.specs.Amending.{range_text}
use Rattle.reuse_amend.proofs.ChoiceLemmas.{not_some, then_some}
use Rattle.reuse_amend.proofs.EndLemmas.{IsEnd, end_separated}
use Rattle.reuse_amend.proofs.EndLemmas.{span_read}
use Rattle.reuse_amend.proofs.PartLemmas.{Anything, anything}
use Rattle.reuse_amend.proofs.AgainLemmas.{is_dated, found_gap, gap_apart}
use Rattle.reuse_amend.proofs.SpanAgainLemmas.{span_again, range_front, range_dated}

-- ---- the spans of a text, whatever the limit

-- a span and those that follow it, up to the last
abbrev pub AreSpans : Option SpanText → List SpanText → Type 0
AreSpans first [] = first ≡ None
AreSpans first (span ∷ spans) = (first ≡ Some span) × AreSpans (next_span span.rest) spans

no_span : (text : List ℕ) → length text ≤ 0 → span_front text ≡ None
no_span [] e = refl
no_span (b ∷ text) e = absurd (omega arith)

-- what follows a span is shorter
next_shorter : (text next : List ℕ) (span : SpanText) → span_front text ≡ Some span → separated span.rest ≡ Some next
    → length next < length text
next_shorter text next span e f =
    let read = span_read Anything anything text span e in
    let cut = end_separated Anything anything span.rest next f in
    let n = length-append cut.front next in
    let less = read.shorter in
    omega (arith, n, ap length cut.joined, less)

next_is : (span : SpanText) (next : List ℕ) → separated span.rest ≡ Some next → next_span span.rest ≡ span_front next
next_is span next e = ap (option_and_then span_front) e

next_none : (span : SpanText) → separated span.rest ≡ None → next_span span.rest ≡ None
next_none span e = ap (option_and_then span_front) e

spans_none : (n : ℕ) → spans_from n None ≡ []
unfolding spans_from
spans_none zero = refl
spans_none (suc n) = refl

-- what follows a span, if that is known of each shorter text
following : (P : Option SpanText → Type 0) (span : SpanText) → P None
    → ((next : List ℕ) → separated span.rest ≡ Some next → P (span_front next))
    → P (next_span span.rest)
following P span none some = by (separated span.rest) refl
  where
    by : (o : Option (List ℕ)) → separated span.rest ≡ o → P (next_span span.rest)
    by None f = subst P (sym (next_none span f)) none
    by (Some next) f = subst P (sym (next_is span next f)) (some next f)

-- the limit is high enough
pub limited : (n : ℕ) (text : List ℕ) → length text ≤ n → AreSpans (span_front text) (spans_from n (span_front text))
unfolding spans_from
limited zero text low = no_span text low
limited (suc n) text low =
    by (span_front text) refl (λ span e. following (λ o. AreSpans o (spans_from n o)) span
    (subst (AreSpans None) (sym (spans_none n)) refl)
    (λ next f. let less = next_shorter text next span e f in limited n next (omega (arith, less, low))))
  where
    by : (o : Option SpanText) → span_front text ≡ o
        → ((span : SpanText) → span_front text ≡ Some span → AreSpans (next_span span.rest)
        (spans_from n (next_span span.rest)))
        → AreSpans o (spans_from (suc n) o)
    by None e behind = refl
    by (Some span) e behind = (refl, behind span e)

-- and these are all
ended : (n : ℕ) (spans : List SpanText) → AreSpans None spans → spans_from n None ≡ spans
ended n [] e = spans_none n
ended n (span ∷ spans) e = absurd (not_some span e.0)

pub all_spans : (n : ℕ) (text : List ℕ) (spans : List SpanText) → length text ≤ n → AreSpans (span_front text) spans
    → spans_from n (span_front text) ≡ spans
unfolding spans_from
all_spans n text [] low e = ap (spans_from n) e ∙ spans_none n
all_spans zero text (span ∷ spans) low e = absurd (not_some span (sym (no_span text low) ∙ e.0))
all_spans (suc n) text (span ∷ spans) low e =
    ap (spans_from (suc n)) e.0
    ∙ ap (λ ss. span ∷ ss) (following (λ o. AreSpans o spans → spans_from n o ≡ spans) span (ended n spans)
    (λ next f. let less = next_shorter text next span e.0 f in all_spans n next spans (omega (arith, less, low))) e.1)

pub are_spans : (text : List ℕ) → AreSpans (span_front text) (spans_of text)
are_spans text = limited (length text) text (omega arith)

pub spans_are : (text : List ℕ) (spans : List SpanText) → AreSpans (span_front text) spans → spans_of text ≡ spans
spans_are text spans e = all_spans (length text) text spans (omega arith) e

-- ---- a span written anew

-- each span is of the same years as the one in its place
abbrev pub SameYears : List SpanText → List SpanText → Type 0
SameYears [] [] = Unit {0}
SameYears (old ∷ olds) (new ∷ news) = (new.low ≡ old.low) × (new.high ≡ old.high) × SameYears olds news
SameYears _ _ = ⊥

-- a text with a span written anew, and its spans
pub record IsRenewed (year : ℕ) (text : List ℕ) (before : List SpanText) (span : SpanText)
    (after : List SpanText) : Type 0 where
  pub cut : IsEnd Anything text span.start
  pub earlier : List SpanText
  pub same : SameYears before earlier
  pub new : SpanText
  pub low : new.low ≡ span.low
  pub high : new.high ≡ Some year
  pub spans : AreSpans (span_front (cut.front ++ range_text span.low year ++ span.rest)) (earlier ++ new ∷ after)
  pub dated : is_dated (cut.front ++ range_text span.low year ++ span.rest) ≡ true

dated_span : (text : List ℕ) (span : SpanText) → span_front text ≡ Some span → is_dated text ≡ true
dated_span text span e = let again = span_again text span e in ap is_dated again.joined ∙ again.dated span.rest

some_first : (o : Option SpanText) (before : List SpanText) (span : SpanText) (after : List SpanText)
    → AreSpans o (before ++ span ∷ after)
    → (first : SpanText) × (o ≡ Some first)
some_first o [] span after e = (span, e.0)
some_first o (first ∷ before) span after e = (first, e.0)

six : (a b c d f : List ℕ) → a ++ (b ++ c) ++ d ++ f ≡ a ++ (b ++ (c ++ d ++ f))
six a b c d f = simp append_assoc

cut_further : (a b c d : List ℕ) → a ++ (b ++ (c ++ d)) ≡ (a ++ (b ++ c)) ++ d
cut_further a b c d = simp append_assoc

-- where a span behind the first is written anew
renewed_behind : (year : ℕ) (text next : List ℕ) (first second : SpanText) (before : List SpanText) (span : SpanText)
    (after : List SpanText)
    → span_front text ≡ Some first → separated first.rest ≡ Some next → span_front next ≡ Some second
    → IsRenewed year next before span after
    → IsRenewed year text (first ∷ before) span after
renewed_behind year text next first second before span after e sep f inner =
    let gap = found_gap first.rest next (dated_span next second f) sep in
    let again = span_again text first e in
    let written = inner.cut.front ++ range_text span.low year ++ span.rest in
    let rest = gap.front ++ written in
    let whole = six again.front gap.front inner.cut.front (range_text span.low year) span.rest in
    let apart = gap_apart first.rest next written gap (span_read Anything anything text first e).word in
    let following : next_span rest ≡ span_front written = ap (option_and_then span_front)
    (gap.again written inner.dated) in
    record {
      cut = record {
        front = again.front ++ (gap.front ++ inner.cut.front);
        joined = again.joined ∙ ap (λ t. again.front ++ t) (gap.joined ∙ ap (λ t. gap.front ++ t) inner.cut.joined)
            ∙ cut_further again.front gap.front inner.cut.front span.start;
        holds = tt;
      };
      earlier = record { start = again.front ++ rest; rest = rest; low = first.low; high = first.high } ∷ inner.earlier;
      same = (refl, refl, inner.same);
      new = inner.new;
      low = inner.low;
      high = inner.high;
      spans = (
        ap span_front whole ∙ again.again rest apart,
        subst
            (λ (o : Option SpanText). AreSpans o (inner.earlier ++ inner.new ∷ after)) (sym following) inner.spans,
      );
      dated = ap is_dated whole ∙ again.dated rest;
    }

pub renewed : (year : ℕ) (text : List ℕ) (before : List SpanText) (span : SpanText) (after : List SpanText)
    → span.low ≤ year → year ≤ 9999
    → AreSpans (span_front text) (before ++ span ∷ after) → IsRenewed year text before span after
renewed year text [] span after order short e =
    let read = span_read Anything anything text span e.0 in
    record {
      cut = record { front = []; joined = read.begins; holds = tt };
      earlier = [];
      same = tt;
      new = record {
        start = range_text span.low year ++ span.rest;
        rest = span.rest;
        low = span.low;
        high = Some year;
      };
      low = refl;
      high = refl;
      spans = (range_front span.low year span.rest order short read.word, e.1);
      dated = range_dated span.low year span.rest (omega (arith, order, short));
    }
renewed year text (first ∷ before) span after order short e =
    let second = some_first (next_span first.rest) before span after e.1 in
    let next = then_some span_front (separated first.rest) second.0 second.1 in
    renewed_behind year text next.0 first second.0 before span after e.0 next.1 next.2
    (renewed year next.0 before span after order short (subst
    (λ (o : Option SpanText). AreSpans o (before ++ span ∷ after)) (next_is first next.0 next.1) e.1))

-- ---- the span that ends last

pub ends_refl : (o : Option ℕ) → ends_by o o ≡ true
ends_refl None = refl
ends_refl (Some n) = le-leb n n (omega arith)

ends_trans : (a b c : Option ℕ) → ends_by a b ≡ true → ends_by b c ≡ true → ends_by a c ≡ true
ends_trans a b None e f = last a
  where
    last : (o : Option ℕ) → ends_by o None ≡ true
    last None = refl
    last (Some n) = refl
ends_trans a None (Some c) e f = absurd (false≢true f)
ends_trans None (Some b) (Some c) e f = absurd (false≢true e)
ends_trans (Some a) (Some b) (Some c) e f =
    let x : a ≤ b = leb-true a b e in let y : b ≤ c = leb-true b c f in le-leb a c (omega (arith, x, y))

ends_total : (a b : Option ℕ) → ends_by a b ≡ false → ends_by b a ≡ true
ends_total None None e = refl
ends_total (Some a) None e = absurd (false≢true (sym e))
ends_total None (Some b) e = refl
ends_total (Some a) (Some b) e = grind (arith, nat_tests)

-- the latest of spans that follow a run: it stands among them, or it is the run's, and none ends later
pub record IsLatest (first : SpanText) (spans : List SpanText) (latest : SpanText) : Type 0 where
  pub before : List SpanText
  pub after : List SpanText
  pub stands : first ∷ spans ≡ before ++ latest ∷ after
  pub later : AllByRecursion (λ span. ends_by span.high latest.high ≡ true) (first ∷ spans)

-- the same of what was gone through
record Latest (gone : List SpanText) (latest : SpanText) : Type 0 where
  before : List SpanText
  after : List SpanText
  stands : gone ≡ before ++ latest ∷ after
  last : AllByRecursion (λ span. ends_by span.high latest.high ≡ true) gone

all_push : (P : SpanText → Type 0) (xs : List SpanText) (x : SpanText) → AllByRecursion P xs → P x
    → AllByRecursion P (xs ++ x ∷ [])
all_push P [] x h p = (p, tt)
all_push P (y ∷ xs) x h p = (h.0, all_push P xs x h.1 p)

all_weaker : (P Q : SpanText → Type 0) → ((s : SpanText) → P s → Q s) → (xs : List SpanText) → AllByRecursion P xs
    → AllByRecursion Q xs
all_weaker P Q f [] h = tt
all_weaker P Q f (x ∷ xs) h = (f x h.0, all_weaker P Q f xs h.1)

latest_with : (gone : List SpanText) (run : RunText) (span : SpanText) → Latest gone run.latest
    → Latest (gone ++ span ∷ []) (with_span run span).latest
latest_with gone run span h = by (ends_by run.latest.high span.high) refl
  where
    by : (t : Bool) → ends_by run.latest.high span.high ≡ t → Latest (gone ++ span ∷ []) (cond t span run.latest)
    by true e = record {
      before = gone;
      after = [];
      stands = refl;
      last = all_push (λ s. ends_by s.high span.high ≡ true) gone span
          (all_weaker (λ s. ends_by s.high run.latest.high ≡ true) (λ s. ends_by s.high span.high ≡ true)
          (λ s p. ends_trans s.high run.latest.high span.high p e) gone h.last)
          (ends_refl span.high);
    }
    by false e = record {
      before = h.before;
      after = h.after ++ span ∷ [];
      stands = ap (λ xs. xs ++ span ∷ []) h.stands ∙ append_assoc h.before (run.latest ∷ h.after) (span ∷ []);
      last = all_push (λ s. ends_by s.high run.latest.high ≡ true) gone span h.last
          (ends_total run.latest.high span.high e);
    }

latest_fold : (gone spans : List SpanText) (run : RunText) → Latest gone run.latest
    → Latest (gone ++ spans) (fold with_span run spans).latest
latest_fold gone [] run h = subst (λ xs. Latest xs run.latest) (sym (append-nil gone)) h
latest_fold gone (span ∷ spans) run h =
    subst (λ xs. Latest xs (fold with_span (with_span run span) spans).latest) (append_assoc gone (span ∷ []) spans)
    (latest_fold (gone ++ span ∷ []) spans (with_span run span) (latest_with gone run span h))

pub latest_of : (spans : List SpanText) (run : RunText) → run_of spans ≡ Some run
    → (first : SpanText) × (others : List SpanText) × (spans ≡ first ∷ others) × IsLatest first others run.latest
latest_of [] run e = absurd (not_some run e)
latest_of (span ∷ spans) run e =
    let same : fold with_span (record { latest = span; rest = span.rest }) spans ≡ run = cc e in
    let h = latest_fold (span ∷ []) spans (record { latest = span; rest = span.rest })
    (record { before = []; after = []; stands = refl; last = (ends_refl span.high, tt) }) in (
      span,
      spans,
      refl,
      subst (λ (r : RunText). IsLatest span spans r.latest) same
          (record { before = h.before; after = h.after; stands = h.stands; later = h.last }),
    )
