use Rattle.reuse_report.proofs.DrawnLemmas.{drawn_trees}
use Rattle.reuse_report.proofs.drawn.draw_from.Goals as goal

pub returns-clause-drawn : goal.returns-clause-drawn
returns-clause-drawn g c honest before after is previews =
    drawn_trees before after c.args.planned.now.changes c.draw-diff.result previews.paths
    (c.draw-diff.ensures.drawn honest before after is previews.leads)
