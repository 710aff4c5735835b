use Rattle.std.proofs.Common.{◌∙◌, ◌++◌, ◌∷◌, ap}
use Rattle.std.proofs.lemmas.List.{take_all}
use Rattle.reuse_plan.specs.Shown.{neighbours_of, with_neighbours}
use Rattle.reuse_plan.proofs.ShownLemmas.{pairs_more}
use Rattle.reuse_plan.proofs.tree_paths.with_neighbours.Goals as goal

pub loop-path-preserved : goal.loop-path-preserved
loop-path-preserved c =
    pairs_more c.args.paths.now c.loop-path.path-index c.path-item.result c.loop-path.both.items
    c.push_both.new.both.items c.loop-path-test.true c.loop-path.invariant
    (c.in_ok-push_both.ensures.both ∙ ap (λ p. c.loop-path.both.items ++ p ∷ neighbours_of p) c.path-item.is)

pub returns-clause-both : goal.returns-clause-both
returns-clause-both c =
    c.loop-path.invariant ∙ ap with_neighbours (take_all c.loop-path.path-index c.args.paths.now c.loop-path-test.false)
