use Rattle.std.proofs.Common.{◌≡◌, ◌+◌, ◌-◌, ◌∙◌, sym, ap, arith, length, suc}
use Rattle.std.specs.Prelude.{option_map}
use Rattle.reuse_amend.specs.PartViews.{span_view, run_view}
use Rattle.reuse_amend.proofs.RunLemmas.{from_run, run-none, run-begin, run-more, run-end, run-zero}
use Rattle.reuse_amend.proofs.year_spans.read_run.Goals as goal

pub returns-in_err-first : goal.returns-in_err-first
returns-in_err-first c =
    ap (option_map run_view) c.from_residual.ensures ∙ run-none c.args.text.now
    (sym c.read_span.ensures ∙ ap (option_map span_view) (c.in_err-first.was))

pub loop-count-init : goal.loop-count-init
loop-count-init c =
    run-begin c.args.text.now (span_view c.in_ok-first.first)
    (sym c.read_span.ensures ∙ ap (option_map span_view) (c.in_ok-first.was))

pub loop-count-preserved : goal.loop-count-preserved
loop-count-preserved c =
    let n = length c.args.text.now - c.loop-count._count in
    let m = length c.args.text.now - (c.loop-count._count + 1) in
    let low = c.loop-count-test.true in
    let size : n ≡ suc m = omega (arith, low) in
    ap (from_run m) c.with_span-run.ensures
    ∙ run-more n m (run_view c.loop-count.run) (span_view c.in-Some.span)
    (sym c.read_next.ensures ∙ ap (option_map span_view) c.in-Some.is) size
    ∙ c.loop-count.invariant

pub returns-in-None : goal.returns-in-None
returns-in-None c =
    run-end (length c.args.text.now - c.loop-count._count) (run_view c.loop-count.run)
    (sym c.read_next.ensures ∙ ap (option_map span_view) c.in-None.is)
    ∙ c.loop-count.invariant

pub returns : goal.returns
returns c =
    run-zero (length c.args.text.now - c.loop-count._count) (run_view c.loop-count.run)
    (omega (arith, c.loop-count-test.false))
    ∙ c.loop-count.invariant
