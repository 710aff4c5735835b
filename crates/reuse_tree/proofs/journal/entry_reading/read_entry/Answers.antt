use Rattle.std.proofs.Common.{◌≤◌, Err, List, ap, sym, subst}
use Rattle.reuse_json.specs.EntryText.{IsJsonEntry}
use Rattle.reuse_change.specs.declared.change.Change.{Change}
use Rattle.reuse_tree.proofs.TrimmedEntries.{entry_read, entry_answers, fault_answers, frame_read, list_missed}
use Rattle.reuse_tree.proofs.TrimmedEntries.{not_none}
use Rattle.reuse_tree.proofs.journal.entry_reading.read_entry.Goals as goal

pub returns-in_err-frame-clause-only : goal.returns-in_err-frame-clause-only
returns-in_err-frame-clause-only c entry paths when few h =
    fault_answers _ c.in_err-frame.field-0.0 entry c.from_residual.ensures.1
    (λ bad. not_none _ (entry.command, h.2.0, entry.when) (c.in_err-frame.ensures.refused (ap Err bad) h.0 h.1)
    (frame_read c.args.text.now h.0 entry h when h.1))

pub returns-in_err-changes-clause-only : goal.returns-in_err-changes-clause-only
returns-in_err-changes-clause-only c entry paths when few h =
    let frame = c.in_ok-frame.ensures.ok in
    fault_answers _ c.in_err-changes.field-0.0 entry c.from_residual-in_err-changes.ensures.1
    (λ bad. list_missed c.args.text.now frame.0 c.in_ok-frame.frame entry h paths when few frame.1 frame.2
    (λ ms is. c.in_err-changes.ensures.refused (ap Err bad) ms is))

pub returns-clause-ok : goal.returns-clause-ok
returns-clause-ok c =
    let frame = c.in_ok-frame.ensures.ok in
    let list = c.in_ok-changes.ensures.ok in
    subst (λ (l : List Change). IsJsonEntry c.args.text.now
    (record { changes = l; command = c.in_ok-frame.frame.0; when = c.in_ok-frame.frame.2 })
    × (c.in_ok-frame.frame.2 ≤ 250_000_000_000)) (sym c.new.ensures)
    (entry_read c.args.text.now frame.0 c.in_ok-frame.frame list.0 c.in_ok-changes.changes.items frame.1
    frame.2 list.1 list.2)

pub returns-clause-only : goal.returns-clause-only
returns-clause-only c entry paths when few h =
    let frame = c.in_ok-frame.ensures.ok in
    let list = c.in_ok-changes.ensures.ok in
    entry_answers c.args.text.now frame.0 c.in_ok-frame.frame list.0 c.in_ok-changes.changes.items c.new.result entry h
    paths when few frame.1 frame.2 list.1 list.2 c.new.ensures
