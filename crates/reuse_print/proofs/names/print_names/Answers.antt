use Rattle.std.proofs.Common.{arith}
use Rattle.reuse_print.specs.Names.{name_line}
use Rattle.reuse_print.proofs.LineLemmas.{Appends-joined}
use Rattle.reuse_print.proofs.names.print_names.Goals as goal

pub loop-row-preserved : goal.loop-row-preserved
loop-row-preserved g c =
    Appends-joined (name_line c.args.names) _ _ _ c.args.rows.now c.loop-row.row-index c.row-item.result
    (omega arith) c.row-item.is c.loop-row.invariant c.in_ok-print_name_line.ensures
