use Rattle.std.proofs.Common.{take}
use Rattle.reuse_print.specs.Objects.{ArePathOutcomeObjects}
use Rattle.reuse_shown.specs.JoinedTexts.{AppendsSome}
use Rattle.reuse_print.proofs.objects.print_path_outcome_objects.Given as goal

-- the objects of the paths so far were written
abbrev pub invariant-loop-path_outcome : goal.invariant-loop-path_outcome
invariant-loop-path_outcome g l = AppendsSome (g.W.Write.contents l.initial.out) (g.W.Write.contents l.out)
    (ArePathOutcomeObjects (take l.path_outcome-index l.path_outcomes))
