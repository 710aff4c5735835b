-- Spans of years and parts of a notice as they are lent, without where they lie in memory (this project's own).
use Rattle.std.specs.Prelude.{ℕ, List}
use Rattle.std.specs.Borrow.{Bor}
use Rattle.reuse_amend.specs.declared.year_spans.Span.{Span}
use Rattle.reuse_amend.specs.declared.year_spans.Run.{Run}
use Rattle.reuse_amend.specs.declared.notice_parts.NoticeParts.{NoticeParts}
use Rattle.reuse_amend.specs.YearSpans.{SpanText, RunText}
use Rattle.reuse_amend.specs.NoticeParts.{Parts}

-- a year, or the end of a span, and what follows it
abbrev pub ahead : {X : Type 0} → X × Bor (List ℕ) → X × List ℕ
ahead found = (found.0, found.1.now)

abbrev pub span_view : Span → SpanText
span_view span = record { start = span.start.now; rest = span.rest.now; low = span.low; high = span.high }

abbrev pub run_view : Run → RunText
run_view run = record { latest = span_view run.latest; rest = run.rest.now }

abbrev pub parts_view : NoticeParts → Parts
parts_view p = record {
  prefix = p.prefix;
  front = p.front.now;
  years = p.years.now;
  between = p.between.now;
  holder = p.holder.now;
  trailing = p.trailing.now;
  years_first = p.years_first;
}
