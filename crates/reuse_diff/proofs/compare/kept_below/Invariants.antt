use Rattle.std.proofs.Common.{◌≡◌, ◌+◌, ◌-◌, take, length}
use Rattle.std.specs.List.{suffix_len}
use Rattle.reuse_diff.specs.Hunks.{is_kept}
use Rattle.reuse_diff.proofs.compare.kept_below.Given as goal

abbrev pub invariant-loop-count : goal.invariant-loop-count
invariant-loop-count l =
    suffix_len is_kept l.pieces ≡ l.count + suffix_len is_kept (take (length l.pieces - l.count) l.pieces)
