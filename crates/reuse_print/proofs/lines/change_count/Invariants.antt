use Rattle.std.proofs.Common.{◌≡◌, take, count_by}
use Rattle.reuse_print.specs.Lines.{would_change}
use Rattle.reuse_print.proofs.lines.change_count.Given as goal

-- so many of the paths so far would change
abbrev pub invariant-loop-path_outcome : goal.invariant-loop-path_outcome
invariant-loop-path_outcome l = l.count ≡ count_by would_change (take l.path_outcome-index l.path_outcomes)
