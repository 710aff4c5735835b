use Rattle.std.proofs.Common.{OnOk, sym, ap, subst}
use Rattle.reuse_change.specs.Files.{tree_of}
use Rattle.reuse_plan.specs.Outcome.{amendments_by}
use Rattle.reuse_edit.specs.PathPlans.{AnswersPlans}
use Rattle.reuse_edit.specs.Tables.{is_amendable}
use Rattle.reuse_plan.specs.TreeStyles.{styles_given, styles_in}
use Rattle.reuse_plan.specs.Unused.{AreUnusedIf}
use Rattle.reuse_plan.proofs.UnusedLemmas.{refused_unused}
use Rattle.reuse_edit.proofs.PathPlanLemmas.{alone_as}
use Rattle.reuse_plan.proofs.walk.plan_amendment.Goals as goal

pub returns-in-Ok-clause-plans : goal.returns-in-Ok-clause-plans
returns-in-Ok-clause-plans g c honest =
    let it = c.args.amending.now in
    let by = amendments_by it.places.now it.amendment.now it.scope.now in
    let tree = tree_of (g.S.Store.files c.args.store.now) in
    let before = c.amend_by.ensures.asks.reads.was_honest honest in
    let same = c.read_own_files.ensures.asks.reads.files before in
    subst (λ given. AnswersPlans c.args.policy tree (by tree given) c.amend_by.result) (sym (c.in-Ok.ensures.files before))
    (subst (λ f. AnswersPlans c.args.policy (tree_of f) (by (tree_of f)
    (styles_given c.in-Ok.own.styles c.in-Ok.own.comments)) c.amend_by.result) same
    (c.amend_by.ensures.plans honest))

pub returns-in-Err-clause-plans : goal.returns-in-Err-clause-plans
returns-in-Err-clause-plans g c honest =
    let it = c.args.amending.now in
    let by = amendments_by it.places.now it.amendment.now it.scope.now in
    let tree = tree_of (g.S.Store.files c.args.store.now) in
    alone_as c.args.policy tree (styles_in tree) (by tree (styles_in tree)) c.in-Err.refusal c.refused_alone.result
    (c.in-Err.ensures.refusal honest) (λ e. ap (by tree) e) c.refused_alone.ensures.reported
    c.refused_alone.ensures.same (c.refused_alone.ensures.plans tree)

pub returns-in-Ok-clause-unused : goal.returns-in-Ok-clause-unused
returns-in-Ok-clause-unused g c honest =
    let scope = c.args.amending.now.scope.now in
    let places = c.args.amending.now.places.now in
    let tree = tree_of (g.S.Store.files c.args.store.now) in
    let before = c.amend_by.ensures.asks.reads.was_honest honest in
    let same = c.read_own_files.ensures.asks.reads.files before in
    let unused = c.amend_by.new.unused in
    subst (λ given. OnOk c.amend_by.result (AreUnusedIf given is_amendable scope places tree unused))
    (sym (c.in-Ok.ensures.files before))
    (subst (λ f. OnOk c.amend_by.result (AreUnusedIf (styles_given c.in-Ok.own.styles c.in-Ok.own.comments)
    is_amendable scope places (tree_of f) unused)) same
    (c.amend_by.ensures.unused honest))

pub returns-in-Err-clause-unused : goal.returns-in-Err-clause-unused
returns-in-Err-clause-unused g c honest =
    let asked = c.args.amending.now in
    let tree = tree_of (g.S.Store.files c.args.store.now) in
    refused_unused c.args.policy (styles_in tree) c.in-Err.refusal is_amendable asked.scope.now asked.places.now tree
    c.args.unused.now c.refused_alone.result (c.in-Err.ensures.refusal honest) c.refused_alone.ensures.reported
