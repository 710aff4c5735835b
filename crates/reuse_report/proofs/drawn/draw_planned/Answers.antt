use Rattle.std.proofs.Common.{IsSomeAnd, Option, subst}
use Rattle.reuse_report.specs.Drawn.{LeadsAsPreviewed}
use Rattle.reuse_report.specs.declared.drawn.PlannedChanges.{PlannedChanges}
use Rattle.reuse_report.proofs.drawn.draw_planned.Goals as goal

pub returns-in-Some-clause-drawn : goal.returns-in-Some-clause-drawn
returns-in-Some-clause-drawn g c honest before after is previews =
    c.draw_from.ensures.drawn honest before after is (subst (λ (f : Option PlannedChanges). IsSomeAnd f
    (λ planned. LeadsAsPreviewed planned before after)) c.in-Some.is previews)
