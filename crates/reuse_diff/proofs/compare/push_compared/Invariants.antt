use Rattle.std.proofs.Common.{◌≡◌, ◌≤◌, ◌+◌, ◌-◌, ◌++◌, take, drop, length}
use Rattle.reuse_diff.specs.Hunks.{old_lines, new_lines}
use Rattle.reuse_diff.specs.TextLines.{texts_of}
use Rattle.reuse_diff.proofs.compare.push_compared.Given as goal

abbrev pub invariant-loop-old_at : goal.invariant-loop-old_at
invariant-loop-old_at l = record {
  within_old : l.old_at ≤ length l.old;
  within_new : l.new_at ≤ length l.new;
  old : old_lines l.pieces.items ++ texts_of (drop l.old_at l.old) ≡ old_lines l.initial.pieces.items ++ texts_of l.old;
  new : new_lines l.pieces.items ++ texts_of (drop l.new_at l.new) ≡ new_lines l.initial.pieces.items ++ texts_of l.new;
  front : take (length l.initial.pieces.items) l.pieces.items ≡ l.initial.pieces.items;
}

abbrev pub decreases-loop-old_at : goal.decreases-loop-old_at
decreases-loop-old_at l = (length l.old - l.old_at) + (length l.new - l.new_at)
