use Rattle.std.proofs.Common.{◌≡◌, ℕ, ◌<◌, false, get_or, take}
use Rattle.reuse_change.specs.Listing.{ArePaths, is_among}
use Rattle.reuse_change.proofs.clash.is_below_file.Given as goal

-- none of the parts so far is one of the paths
abbrev pub invariant-loop-i : goal.invariant-loop-i
invariant-loop-i l =
    ArePaths l.paths → (k : ℕ) → k < l.i → get_or l.path k 0 ≡ 47 → is_among l.paths (take k l.path) ≡ false
