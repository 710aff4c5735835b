use Rattle.std.proofs.Common.{OnOk, sym, ap, subst}
use Rattle.reuse_change.specs.Files.{tree_of}
use Rattle.reuse_plan.specs.Outcome.{amendments_by}
use Rattle.reuse_edit.specs.PathPlans.{AnswersPlans}
use Rattle.reuse_edit.specs.Tables.{is_amendable}
use Rattle.reuse_plan.specs.TreeStyles.{styles_given}
use Rattle.reuse_plan.specs.Unused.{AreUnusedIf}
use Rattle.reuse_plan.proofs.UnusedLemmas.{refused_unused}
use Rattle.reuse_edit.proofs.PathPlanLemmas.{alone_as}
use Rattle.reuse_plan.proofs.walk.amend_by.Goals as goal

pub returns-in-Ok-clause-plans : goal.returns-in-Ok-clause-plans
returns-in-Ok-clause-plans g c honest =
    let it = c.args.amending.now in
    let by = amendments_by it.places.now it.amendment.now it.scope.now in
    let tree = tree_of (g.S.Store.files c.args.store.now) in
    subst (λ given. AnswersPlans c.args.policy tree (by tree given) c.plan_places.result) (sym c.in-Ok.ensures.styles)
    (c.plan_places.ensures.plans honest)

pub returns-in-Err-clause-plans : goal.returns-in-Err-clause-plans
returns-in-Err-clause-plans g c honest =
    let it = c.args.amending.now in
    let by = amendments_by it.places.now it.amendment.now it.scope.now in
    let tree = tree_of (g.S.Store.files c.args.store.now) in
    let given = styles_given c.args.own.now.styles c.args.own.now.comments in
    alone_as c.args.policy tree given (by tree given) c.in-Err.refusal c.refused_alone.result
    c.in-Err.ensures.refusal (λ e. ap (by tree) e) c.refused_alone.ensures.reported
    c.refused_alone.ensures.same (c.refused_alone.ensures.plans tree)

pub returns-in-Ok-clause-unused : goal.returns-in-Ok-clause-unused
returns-in-Ok-clause-unused g c honest =
    let it = c.args.amending.now in
    let tree = tree_of (g.S.Store.files c.args.store.now) in
    subst (λ given. OnOk c.plan_places.result (AreUnusedIf given is_amendable it.scope.now it.places.now tree
    c.plan_places.new.unused)) (sym c.in-Ok.ensures.styles) (c.plan_places.ensures.unused honest)

pub returns-in-Err-clause-unused : goal.returns-in-Err-clause-unused
returns-in-Err-clause-unused g c honest =
    let it = c.args.amending.now in
    let tree = tree_of (g.S.Store.files c.args.store.now) in
    refused_unused c.args.policy (styles_given c.args.own.now.styles c.args.own.now.comments) c.in-Err.refusal is_amendable
    it.scope.now it.places.now tree c.args.unused.now c.refused_alone.result c.in-Err.ensures.refusal
    c.refused_alone.ensures.reported
