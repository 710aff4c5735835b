-- Years that reach a year lose none of theirs, and reach it for good.
use Rattle.std.proofs.Common.{◌≡◌, ℕ, ◌<◌, ◌≤◌, true, false, cond, List, [], ◌∷◌, ◌++◌, Option}
use Rattle.std.proofs.Common.{Some, None, refl, sym, ap, subst, ◌∙◌, arith, inl, inr}
use Rattle.std.specs.List.{AllByRecursion}
use Rattle.std.specs.Option.{option_map_or}
use Rattle.std.proofs.lemmas.Bool.{false≢true, ltb-true, leb-true, le-leb}
use Rattle.std.proofs.lemmas.Bool.Decides.{nat_tests}
use Rattle.reuse_amend.specs.declared.amendments.Amendments.{Amendments}
use Rattle.reuse_amend.specs.YearSpans.{SpanText, RunText, upto, span_front, is_in_order, ends_by, spans_of}
use Rattle.reuse_amend.specs.YearSpans.{run_front}
use Rattle.reuse_amend.specs.NoticeParts.{Parts}
use Rattle.reuse_amend.specs.Amending.{range_text, is_before, span_until, years_until, if_concerned, parts_amended}
use Rattle.reuse_amend.specs.InPlace.{EachIncludes}
use Rattle.reuse_amend.specs.Settled.{HasFourDigits}
use Rattle.reuse_amend.proofs.EndLemmas.{upto_is, run_read}
use Rattle.reuse_amend.proofs.PartLemmas.{Anything, anything}
use Rattle.reuse_amend.proofs.WrittenLemmas.{Reaches, until_reaches, chosen_short}
use Rattle.reuse_amend.proofs.SpansLemmas.{AreSpans, are_spans, spans_are, SameYears, renewed, ends_refl}
use Rattle.reuse_amend.proofs.SpansLemmas.{latest_of}

-- ---- the spans of years that reach a year

pub record AreReached (year : ℕ) (years new : List ℕ) : Type 0 where
  pub before : List SpanText
  pub latest : SpanText
  pub after : List SpanText
  pub old_spans : spans_of years ≡ before ++ latest ∷ after
  pub earlier : List SpanText
  pub same : SameYears before earlier
  pub reached : SpanText
  pub new_spans : spans_of new ≡ earlier ++ reached ∷ after
  pub low : reached.low ≡ latest.low
  pub high : reached.high ≡ Some year
  pub later : ends_by latest.high (Some year) ≡ true

-- years that end before a year begin before it
before_year : (year low : ℕ) (high : Option ℕ) → is_before year high ≡ true → is_in_order low high ≡ true
    → (low ≤ year) × (ends_by high (Some year) ≡ true)
before_year year low None e f = absurd (false≢true e)
before_year year low (Some high) e f =
    let x : high < year = ltb-true high year e in
    let y : low ≤ high = leb-true low high f in
    (omega (arith, x, y), le-leb high year (omega (arith, x)))

pub are_reached : (year : ℕ) (years new : List ℕ) → year ≤ 9999 → Reaches year years new → AreReached year years new
are_reached year years new short r =
    let run = r.run in
    let read = run_read Anything anything years run r.found in
    let last = latest_of (spans_of years) run r.found in
    let is = last.3 in
    let spans : spans_of years ≡ is.before ++ run.latest ∷ is.after = last.2 ∙ is.stands in
    let order = before_year year run.latest.low run.latest.high r.before read.span_is.order in
    let made = renewed year years is.before run.latest is.after order.0 short
    (subst (AreSpans (span_front years)) spans (are_spans years)) in
    let written : made.cut.front ++ range_text run.latest.low year ++ run.latest.rest ≡ new =
    ap (λ t. t ++ range_text run.latest.low year ++ run.latest.rest)
    (sym (upto_is Anything years run.latest.start made.cut)) ∙ r.written in
    record {
      before = is.before;
      latest = run.latest;
      after = is.after;
      old_spans = spans;
      earlier = made.earlier;
      same = made.same;
      reached = made.new;
      new_spans = spans_are new (made.earlier ++ made.new ∷ is.after)
          (subst (λ t. AreSpans (span_front t) (made.earlier ++ made.new ∷ is.after)) written made.spans);
      low = made.low;
      high = made.high;
      later = order.1;
    }

-- ---- no year is lost

includes_own : (spans : List SpanText) → EachIncludes spans spans
includes_own [] = tt
includes_own (span ∷ spans) = (refl, ends_refl span.high, includes_own spans)

includes_reached : (before earlier : List SpanText) (old new : SpanText) (after : List SpanText)
    → SameYears before earlier → new.low ≡ old.low
    → ends_by old.high new.high ≡ true → EachIncludes (before ++ old ∷ after) (earlier ++ new ∷ after)
includes_reached [] [] old new after same low high = (low, high, includes_own after)
includes_reached [] (s ∷ earlier) old new after same low high = absurd same
includes_reached (s ∷ before) [] old new after same low high = absurd same
includes_reached (s ∷ before) (t ∷ earlier) old new after same low high = (
  same.0,
  ap (ends_by s.high) same.1 ∙ ends_refl s.high,
  includes_reached before earlier old new after same.2 low high,
)

pub until_includes : (year : ℕ) (years : List ℕ) → year ≤ 9999
    → EachIncludes (spans_of years) (spans_of (years_until year years))
until_includes year years short = elim (until_reaches year years (years_until year years) refl) [
  | inl same ↦ subst (λ t. EachIncludes (spans_of years) (spans_of t)) same (includes_own (spans_of years))
  | inr r ↦ (let are = are_reached year years (years_until year years) short r in
      let both : EachIncludes (are.before ++ are.latest ∷ are.after) (are.earlier ++ are.reached ∷ are.after) =
      includes_reached are.before are.earlier are.latest are.reached are.after are.same are.low
      (ap (ends_by are.latest.high) are.high ∙ are.later) in
      subst (λ xs. EachIncludes xs (spans_of (years_until year years))) (sym are.old_spans)
      (subst (EachIncludes (are.before ++ are.latest ∷ are.after)) (sym are.new_spans) both))
]

pub amended_includes : (a : Amendments) (p : Parts) (holder : List ℕ) → HasFourDigits a.until
    → EachIncludes (spans_of p.years) (spans_of (parts_amended a p holder).years)
amended_includes a p holder short = by (if_concerned a holder a.until) (chosen_short a holder short)
  where
    by : (o : Option ℕ) → HasFourDigits o → EachIncludes (spans_of p.years)
        (spans_of (option_map_or (λ year. years_until year p.years) o p.years))
    by None h = includes_own (spans_of p.years)
    by (Some year) h = until_includes year p.years h

-- ---- once more

among : (P : SpanText → Type 0) (before : List SpanText) (span : SpanText) (after : List SpanText)
    → AllByRecursion P (before ++ span ∷ after) → P span
among P [] span after h = h.0
among P (s ∷ before) span after h = among P before span after h.1

not_before : (year : ℕ) (high : Option ℕ) → ends_by (Some year) high ≡ true → is_before year high ≡ false
not_before year None e = refl
not_before year (Some high) e = let x : year ≤ high = leb-true year high e in grind (arith, nat_tests)

-- years of which one reaches the year stay
until_stays : (year : ℕ) (years : List ℕ) (before : List SpanText) (span : SpanText) (after : List SpanText)
    → spans_of years ≡ before ++ span ∷ after
    → span.high ≡ Some year → years_until year years ≡ years
until_stays year years before span after spans high = by (run_front years) refl
  where
    by : (o : Option RunText) → run_front years ≡ o → option_map_or (λ run. span_until year years run.latest) o years
        ≡ years
    by None e = refl
    by (Some run) e =
        let last = latest_of (spans_of years) run e in
        let later : ends_by span.high run.latest.high ≡ true =
        among (λ s. ends_by s.high run.latest.high ≡ true) before span after
        (subst (AllByRecursion (λ s. ends_by s.high run.latest.high ≡ true)) (sym last.2 ∙ spans) last.3.later) in
        ap (λ t. cond t (upto years run.latest.start ++ range_text run.latest.low year ++ run.latest.rest) years)
        (not_before year run.latest.high (sym (ap (λ o. ends_by o run.latest.high) high) ∙ later))

pub until_again : (year : ℕ) (years : List ℕ) → year ≤ 9999 → years_until year (years_until year years)
    ≡ years_until year years
until_again year years short = elim (until_reaches year years (years_until year years) refl) [
  | inl same ↦ ap (years_until year) (sym same)
  | inr r ↦ (let are = are_reached year years (years_until year years) short r in
      until_stays year (years_until year years) are.earlier are.reached are.after are.new_spans are.high)
]
