-- The spans of a text, from one on, and the ends of a text that years follow.
use Rattle.std.proofs.Common.{◌≡◌, ℕ, zero, suc, ◌-◌, List, [], ◌∷◌, length, Option, Some, None, refl}
use Rattle.std.proofs.Common.{sym, ap, ◌∙◌, arith}
use Rattle.std.specs.Prelude.{fold}
use Rattle.reuse_amend.proofs.ChoiceLemmas.{not_some}
use Rattle.reuse_amend.specs.YearSpans.{SpanText, RunText, next_span, spans_from, span_front, run_of}
use Rattle.reuse_amend.specs.YearSpans.{run_front, with_span}

pub spans-none : (n : ℕ) → spans_from n None ≡ []
unfolding spans_from
spans-none zero = refl
spans-none (suc n) = refl

pub run-none : (text : List ℕ) → span_front text ≡ None → None ≡ run_front text
run-none text e = ap run_of (sym (ap (spans_from (length text)) e ∙ spans-none (length text)))

-- one span more
pub spans-some : (n m : ℕ) (span : SpanText) → n ≡ suc m → spans_from n (Some span)
    ≡ span ∷ spans_from m (next_span span.rest)
unfolding spans_from
spans-some n m span e = ap (λ k. spans_from k (Some span)) e

pub spans-zero : (n : ℕ) (o : Option SpanText) → n ≡ 0 → spans_from n o ≡ []
unfolding spans_from
spans-zero n o e = ap (λ k. spans_from k o) e

abbrev pub from_run : ℕ → RunText → Option RunText
from_run n run = Some (fold with_span run (spans_from n (next_span run.rest)))

-- the first span of a text, and then the others
pub run-first : (text : List ℕ) (span : SpanText) (n : ℕ) → span_front text ≡ Some span → length text ≡ suc n
    → from_run n (record { latest = span; rest = span.rest }) ≡ run_front text
run-first text span n e size = sym (ap run_of (ap (spans_from (length text)) e ∙ spans-some (length text) n span size))

pub run-begin : (text : List ℕ) (span : SpanText) → span_front text ≡ Some span
    → from_run (length text - 1) (record { latest = span; rest = span.rest }) ≡ run_front text
run-begin [] span e = absurd (not_some span e)
run-begin (b ∷ text) span e =
    let same : suc (length text) - 1 ≡ length text = omega arith in
    ap (λ n. from_run n (record { latest = span; rest = span.rest })) same
    ∙ run-first (b ∷ text) span (length text) e refl

pub run-more : (n m : ℕ) (run : RunText) (span : SpanText) → next_span run.rest ≡ Some span → n ≡ suc m
    → from_run m (with_span run span) ≡ from_run n run
run-more n m run span e size =
    sym (ap (λ o. Some (fold with_span run (spans_from n o))) e
    ∙ ap (λ spans. Some (fold with_span run spans)) (spans-some n m span size))

pub run-end : (n : ℕ) (run : RunText) → next_span run.rest ≡ None → Some run ≡ from_run n run
run-end n run e = sym (ap (λ o. Some (fold with_span run (spans_from n o))) e
    ∙ ap (λ spans. Some (fold with_span run spans)) (spans-none n))

pub run-zero : (n : ℕ) (run : RunText) → n ≡ 0 → Some run ≡ from_run n run
run-zero n run e = sym (ap (λ spans. Some (fold with_span run spans)) (spans-zero n (next_span run.rest) e))
