use Rattle.std.proofs.Common.{◌≡◌, ◌+◌, drop, sum_by}
use Rattle.reuse_change.specs.Entry.{change_size, entry_size}
use Rattle.reuse_change.proofs.entry_size.is_too_many.Given as goal

-- what is counted so far, and what is left to count
abbrev pub invariant-loop-change : goal.invariant-loop-change
invariant-loop-change l =
    entry_size l.changes + l.room ≡ 268_435_456 + sum_by change_size (drop l.change-index l.changes)
