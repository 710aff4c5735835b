use Rattle.std.proofs.Common.{arith}
use Rattle.reuse_print.specs.Objects.{IsRowObject}
use Rattle.reuse_shown.proofs.JoinedLemmas.{AppendsSome-row}
use Rattle.reuse_print.proofs.objects.print_row_objects.Goals as goal

pub loop-row-preserved : goal.loop-row-preserved
loop-row-preserved g c =
    AppendsSome-row IsRowObject _ _ _ c.args.rows.now c.loop-row.row-index c.row-item.result
    (omega arith) c.row-item.is c.loop-row.invariant c.in_ok-print_row_object.ensures
