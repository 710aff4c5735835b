use Rattle.std.proofs.Common.{◌≡◌, ◌<◌, ◌+◌, ℕ, get_or, map, Less, [], nat_cmp}
use Rattle.std.specs.Cmp.Lexicographic.{slice_cmp}
use Rattle.reuse_change.specs.Change.{path_of}
use Rattle.reuse_tree.proofs.journal.entry_checks.ascend.Given as goal

-- the paths so far ascend, each below the next
abbrev pub invariant-loop-i : goal.invariant-loop-i
invariant-loop-i l = (k : ℕ) → k + 1 < l.i
    → slice_cmp nat_cmp (get_or (map path_of l.changes) k []) (get_or (map path_of l.changes) (k + 1) []) ≡ Less
