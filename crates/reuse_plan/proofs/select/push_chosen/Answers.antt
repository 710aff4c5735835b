use Rattle.std.proofs.Common.{[], ◌∷◌, ◌++◌, ◌∙◌, ap, filter}
use Rattle.reuse_plan.specs.FileTask.{chooses}
use Rattle.reuse_plan.proofs.PlaceLemmas.{kept_more}
use Rattle.reuse_plan.proofs.select.push_chosen.Goals as goal

pub loop-path-preserved : goal.loop-path-preserved
loop-path-preserved c =
    kept_more
    (chooses c.args.asked.now) c.args.paths.now c.loop-path.path-index c.path-item.result c.args.found.now.items
    c.loop-path.found.items c.push_if_chosen.new.found.items c.loop-path-test.true c.loop-path.invariant
    (c.in_ok-push_if_chosen.ensures
    ∙ ap (λ p. c.loop-path.found.items ++ filter (chooses c.args.asked.now) (p ∷ [])) c.path-item.is)
