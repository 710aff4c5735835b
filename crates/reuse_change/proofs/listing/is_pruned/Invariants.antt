use Rattle.std.proofs.Common.{◌≡◌, ℕ, ◌<◌, false, get_or, take}
use Rattle.reuse_change.proofs.listing.is_pruned.Given as goal

-- none of the folders so far is pruned
abbrev pub invariant-loop-at : goal.invariant-loop-at
invariant-loop-at g l =
    (k : ℕ) → k < l.at → get_or l.fn.path k 0 ≡ 47 → g.P.Pruning.prunes l.pruning (take k l.fn.path) ≡ false
