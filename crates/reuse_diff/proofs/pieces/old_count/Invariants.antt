use Rattle.std.proofs.Common.{◌≡◌, ◌≤◌, take, length}
use Rattle.reuse_diff.specs.Hunks.{old_lines}
use Rattle.reuse_diff.proofs.pieces.old_count.Given as goal

abbrev pub invariant-loop-piece : goal.invariant-loop-piece
invariant-loop-piece l = (l.count ≤ l.piece-index) × (l.count ≡ length (old_lines (take l.piece-index l.pieces)))
