use Rattle.std.proofs.Common.{[], Some, Result, Ok, Err, OnOk, refl, arith}
use Rattle.std.specs.Result.{IsOk}
use Rattle.reuse_diff.specs.DiffText.{IsRecord}
use Rattle.reuse_shown.proofs.JoinedLemmas.{AppendsSome-row}
use Rattle.reuse_report.proofs.printed.records_of.Goals as goal

-- what holds of a success holds where it is one
of_ok : {T E P : Type 0} (result : Result T E) → OnOk result P → IsOk result → P
of_ok (Ok value) holds is = holds
of_ok (Err fault) holds is = absurd (cc)

pub loop-change-preserved : goal.loop-change-preserved
loop-change-preserved c =
    AppendsSome-row IsRecord (Some []) (Some c.loop-change.text.items)
    (Some c.print_record.new.out.items) c.args.changes.now c.loop-change.change-index c.change-item.result
    (omega arith) c.change-item.is c.loop-change.invariant
    (of_ok c.print_record.result c.print_record.ensures (c.in_ok-in_memory.ensures.done.0 refl))
