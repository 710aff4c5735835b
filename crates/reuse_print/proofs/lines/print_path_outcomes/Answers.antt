use Rattle.std.proofs.Common.{arith}
use Rattle.reuse_print.specs.Lines.{path_outcome_line}
use Rattle.reuse_print.proofs.LineLemmas.{Appends-joined}
use Rattle.reuse_print.proofs.lines.print_path_outcomes.Goals as goal

pub loop-path_outcome-preserved : goal.loop-path_outcome-preserved
loop-path_outcome-preserved g c =
    Appends-joined (path_outcome_line c.args.names) _ _ _ c.args.path_outcomes.now
    c.loop-path_outcome.path_outcome-index c.path_outcome-item.result
    (omega arith) c.path_outcome-item.is c.loop-path_outcome.invariant c.in_ok-print_path_outcome.ensures
