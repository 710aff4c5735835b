use Rattle.std.proofs.Common.{◌≡◌, ℕ, ◌<◌, false, get_or, take, chars}
use Rattle.reuse_toml.specs.GlobMatch.{matches_glob}
use Rattle.reuse_command.proofs.choice.matches_above.Given as goal

-- the glob matches none of the folders so far
abbrev pub invariant-loop-at : goal.invariant-loop-at
invariant-loop-at l =
    (k : ℕ) → k < l.at → get_or l.fn.path k 0 ≡ 47 → matches_glob l.fn.glob (chars (take k l.fn.path)) ≡ false
