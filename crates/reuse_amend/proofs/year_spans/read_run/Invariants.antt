use Rattle.std.proofs.Common.{◌≡◌, ◌-◌, length, Some}
use Rattle.std.specs.Prelude.{fold}
use Rattle.reuse_amend.specs.YearSpans.{with_span, next_span, spans_from, run_front}
use Rattle.reuse_amend.specs.PartViews.{run_view}
use Rattle.reuse_amend.proofs.year_spans.read_run.Given as goal

abbrev pub invariant-loop-count : goal.invariant-loop-count
invariant-loop-count l = Some (fold with_span (run_view l.run)
    (spans_from (length l.text - l._count) (next_span l.run.rest.now))) ≡ run_front l.text
