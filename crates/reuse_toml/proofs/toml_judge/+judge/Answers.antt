use Rattle.std.proofs.Common.{◌∙◌}
use Rattle.toml.specs.View.{items_view}
use Rattle.reuse_toml.proofs.JudgeLemmas.{items-end}
use Rattle.reuse_toml.proofs.toml_judge.+judge.Goals as goal

pub are_amended-returns : goal.are_amended-returns
are_amended-returns t c =
    c.has_none.ensures ∙ items-end c.args.amendments.now c.args.level _ c.args.items.now c.loop-value.value-index
    (items_view c.loop-value.left.now) c.loop-value-test.false c.loop-value.invariant
