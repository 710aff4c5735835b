use Rattle.reuse_report.proofs.DiffLemmas.{cut_short, handed}
use Rattle.reuse_report.proofs.printed.print.Goals as goal

pub returns-clause-printed : goal.returns-clause-printed
returns-clause-printed g c =
    let printed_text = c.in_ok-text.ensures.text (rw c.as_slice.ensures.value c.in_ok-diff.ensures.behind) in
    let appends = rw c.as_slice-2.ensures.value at c.in_ok-write_text.ensures.written in
    (c.in_ok-text.text.items, (printed_text, appends))

pub returns-in_err-write_text-clause-finishes : goal.returns-in_err-write_text-clause-finishes
returns-in_err-write_text-clause-finishes g c =
    let printed_text = c.in_ok-text.ensures.text (rw c.as_slice.ensures.value c.in_ok-diff.ensures.behind) in
    let front = rw c.as_slice-2.ensures.value at c.in_err-write_text.ensures.front in
    let residual = c.from_residual-in_err-write_text in
    handed _ c.in_err-write_text.field-0.0 residual.result residual.ensures.1
    (cut_short c.args.options c.args.response.now _ _ c.in_ok-text.text.items c.in_err-write_text.field-0.0
    c.in_err-write_text.ensures.fault.0 printed_text front)
