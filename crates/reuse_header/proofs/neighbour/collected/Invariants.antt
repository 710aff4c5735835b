use Rattle.std.proofs.Common.{◌≡◌, ◌++◌, length, map}
use Rattle.reuse_header.specs.Open.{open_left}
use Rattle.reuse_header.specs.Blocks.{without_returns}
use Rattle.reuse_header.proofs.neighbour.collected.Given as goal

abbrev pub invariant-loop-content : goal.invariant-loop-content
invariant-loop-content l = map (λ content. content.now) l.list.items ++ map without_returns
    (open_left l.rest) ≡ map without_returns (open_left l.contents)

abbrev pub decreases-loop-content : goal.decreases-loop-content
decreases-loop-content l = length (open_left l.rest)
