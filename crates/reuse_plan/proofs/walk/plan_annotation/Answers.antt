use Rattle.std.proofs.Common.{OnOk, sym, ap, subst}
use Rattle.reuse_change.specs.Files.{tree_of}
use Rattle.reuse_plan.specs.Outcome.{annotations_by}
use Rattle.reuse_edit.specs.PathPlans.{AnswersPlans}
use Rattle.reuse_command.specs.Covered.{is_covered}
use Rattle.reuse_plan.specs.TreeStyles.{styles_given, styles_in}
use Rattle.reuse_plan.specs.Unused.{AreUnusedIf}
use Rattle.reuse_plan.proofs.UnusedLemmas.{refused_unused}
use Rattle.reuse_edit.proofs.PathPlanLemmas.{alone_as}
use Rattle.reuse_plan.proofs.walk.plan_annotation.Goals as goal

pub returns-in-Ok-clause-plans : goal.returns-in-Ok-clause-plans
returns-in-Ok-clause-plans g c honest =
    let it = c.args.annotating.now in
    let by = annotations_by it.places.now it.additions.now it.how.now it.scope.now in
    let tree = tree_of (g.S.Store.files c.args.store.now) in
    let before = c.annotate_by.ensures.asks.reads.was_honest honest in
    let same = c.read_own_files.ensures.asks.reads.files before in
    subst (λ given. AnswersPlans c.args.policy tree (by tree given) c.annotate_by.result) (sym (c.in-Ok.ensures.files before))
    (subst (λ f. AnswersPlans c.args.policy (tree_of f) (by (tree_of f)
    (styles_given c.in-Ok.own.styles c.in-Ok.own.comments)) c.annotate_by.result) same
    (c.annotate_by.ensures.plans honest))

pub returns-in-Err-clause-plans : goal.returns-in-Err-clause-plans
returns-in-Err-clause-plans g c honest =
    let it = c.args.annotating.now in
    let by = annotations_by it.places.now it.additions.now it.how.now it.scope.now in
    let tree = tree_of (g.S.Store.files c.args.store.now) in
    alone_as c.args.policy tree (styles_in tree) (by tree (styles_in tree)) c.in-Err.refusal c.refused_alone.result
    (c.in-Err.ensures.refusal honest) (λ e. ap (by tree) e) c.refused_alone.ensures.reported
    c.refused_alone.ensures.same (c.refused_alone.ensures.plans tree)

pub returns-in-Ok-clause-unused : goal.returns-in-Ok-clause-unused
returns-in-Ok-clause-unused g c honest =
    let scope = c.args.annotating.now.scope.now in
    let places = c.args.annotating.now.places.now in
    let tree = tree_of (g.S.Store.files c.args.store.now) in
    let before = c.annotate_by.ensures.asks.reads.was_honest honest in
    let same = c.read_own_files.ensures.asks.reads.files before in
    let unused = c.annotate_by.new.unused in
    subst (λ given. OnOk c.annotate_by.result (AreUnusedIf given is_covered scope places tree unused))
    (sym (c.in-Ok.ensures.files before))
    (subst (λ f. OnOk c.annotate_by.result (AreUnusedIf (styles_given c.in-Ok.own.styles c.in-Ok.own.comments)
    is_covered scope places (tree_of f) unused)) same
    (c.annotate_by.ensures.unused honest))

pub returns-in-Err-clause-unused : goal.returns-in-Err-clause-unused
returns-in-Err-clause-unused g c honest =
    let asked = c.args.annotating.now in
    let tree = tree_of (g.S.Store.files c.args.store.now) in
    refused_unused c.args.policy (styles_in tree) c.in-Err.refusal is_covered asked.scope.now asked.places.now tree
    c.args.unused.now c.refused_alone.result (c.in-Err.ensures.refusal honest) c.refused_alone.ensures.reported
