use Rattle.std.proofs.Common.{◌≡◌, take}
use Rattle.reuse_plan.specs.Shown.{with_neighbours}
use Rattle.reuse_plan.proofs.tree_paths.with_neighbours.Given as goal

-- the paths so far, each with its neighbour
abbrev pub invariant-loop-path : goal.invariant-loop-path
invariant-loop-path l = l.both.items ≡ with_neighbours (take l.path-index l.paths)
