use Rattle.std.proofs.Common.{arith}
use Rattle.reuse_print.specs.Lines.{change_line}
use Rattle.reuse_print.proofs.LineLemmas.{Appends-joined}
use Rattle.reuse_print.proofs.lines.print_changes.Goals as goal

pub loop-change-preserved : goal.loop-change-preserved
loop-change-preserved g c =
    Appends-joined (change_line c.args.names) _ _ _ c.args.changes.now c.loop-change.change-index c.change-item.result
    (omega arith) c.change-item.is c.loop-change.invariant
    (rw (c.kind_word.ensures, c.path.ensures) at c.in_ok-print_path.ensures)
