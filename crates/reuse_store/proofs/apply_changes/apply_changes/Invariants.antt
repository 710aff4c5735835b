use Rattle.std.proofs.Common.{◌≡◌, ℕ, ◌≤◌, drop, length}
use Rattle.reuse_store.proofs.Batches.{Reached}
use Rattle.reuse_store.proofs.apply_changes.apply_changes.Given as goal

-- the changes before the rest are made, and no other
abbrev pub invariant-loop-rest : goal.invariant-loop-rest
invariant-loop-rest g l = (count : ℕ) × (l.rest ≡ drop count l.changes) × (count ≤ length l.changes)
    × Reached g.S.Store l.direction l.changes l.fn.store count l.store

abbrev pub decreases-loop-rest : goal.decreases-loop-rest
decreases-loop-rest g l = length l.rest
