use Rattle.std.proofs.Common.{arith}
use Rattle.reuse_print.specs.Objects.{IsPathOutcomeObject}
use Rattle.reuse_shown.proofs.JoinedLemmas.{AppendsSome-row}
use Rattle.reuse_print.proofs.objects.print_path_outcome_objects.Goals as goal

pub loop-path_outcome-preserved : goal.loop-path_outcome-preserved
loop-path_outcome-preserved g c =
    AppendsSome-row IsPathOutcomeObject _ _ _ c.args.path_outcomes.now c.loop-path_outcome.path_outcome-index
    c.path_outcome-item.result
    (omega arith) c.path_outcome-item.is c.loop-path_outcome.invariant c.in_ok-print_path_outcome_object.ensures
