use Rattle.std.proofs.Common.{◌≡◌, ◌+◌, drop}
use Rattle.std.specs.List.{prefix_len}
use Rattle.reuse_diff.specs.Hunks.{is_kept}
use Rattle.reuse_diff.proofs.compare.kept_above.Given as goal

abbrev pub invariant-loop-count : goal.invariant-loop-count
invariant-loop-count l = prefix_len is_kept l.pieces ≡ l.count + prefix_len is_kept (drop l.count l.pieces)
