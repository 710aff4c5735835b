use Rattle.std.proofs.Common.{◌&&◌, not, Bool, List, cond, map, ap, sym, subst, ◌∙◌}
use Rattle.reuse_plan.specs.Shown.{ShowsEach}
use Rattle.reuse_change.specs.Files.{Files, tree_of}
use Rattle.reuse_plan.specs.FileTask.{at_by, paths_of, scope_of, works_on}
use Rattle.reuse_command.specs.Command.{has_root}
use Rattle.reuse_edit.specs.PathEdits.{PathEdit, refused_alone}
use Rattle.reuse_edit.specs.PathPlans.{AnswersPlans}
use Rattle.reuse_plan.specs.declared.file_task.FileTask.{FileTask}
use Rattle.reuse_command.specs.declared.command.Place.{Place}
use Rattle.reuse_command.specs.declared.command.Place.TheVariants as place
use Rattle.reuse_command.specs.declared.command.Scope.{Scope}
use Rattle.reuse_command.specs.declared.reply.Refusal.TheVariants.{IsFolder}
use Rattle.reuse_plan.proofs.UnusedLemmas.{not_recursive, unused_none}
use Rattle.reuse_plan.proofs.Counting.{of_ok, on_ok}
use Rattle.reuse_plan.proofs.walk.plan_places.Goals as goal

-- what is done, by whether the root is given where folders aren't gone through
abbrev done_where : FileTask → Files → List Place → Bool → List PathEdit
done_where asked tree places root = cond root (refused_alone (IsFolder place.Root))
    (map (at_by asked tree) (paths_of asked places tree))

-- the root is given, and folders aren't gone through
abbrev is_root_given : List Place → Scope → Bool
is_root_given places scope = not scope.recursive && has_root places

pub returns-then-gives_root-clause-plans : goal.returns-then-gives_root-clause-plans
returns-then-gives_root-clause-plans g c honest =
    let tree = tree_of (g.S.Store.files c.args.store.now) in
    subst
    (λ b. AnswersPlans c.args.policy tree (done_where c.args.asked.now tree c.args.places.now b) c.refused_alone.result)
    (sym (ap (is_root_given c.args.places.now) (sym c.scope.ensures) ∙ sym c.gives_root.ensures ∙ c.if-gives_root.true))
    (c.refused_alone.ensures.plans tree)

pub returns-in-Ok-clause-plans : goal.returns-in-Ok-clause-plans
returns-in-Ok-clause-plans g c honest =
    let asked = c.args.asked.now in
    let places = c.args.places.now in
    let policy = c.args.policy in
    let tree = tree_of (g.S.Store.files c.args.store.now) in
    let read = c.plan_paths.ensures.asks.reads.was_honest honest in
    let same = ap tree_of (c.find_selected.ensures.asks.reads.files read) in
    let selected = c.deref.ensures.value ∙ c.in-Ok.ensures.paths read in
    let shown = subst (λ t. ShowsEach c.in-Ok.selected.listing t c.deref.result.now) (sym same)
    (subst (ShowsEach c.in-Ok.selected.listing tree) (sym c.deref.ensures.value) (c.in-Ok.ensures.shown read)) in
    subst (λ b. AnswersPlans policy tree (done_where asked tree places b) c.plan_paths.result)
    (sym (ap (is_root_given places) (sym c.scope.ensures) ∙ sym c.gives_root.ensures ∙ c.if-gives_root.false))
    (subst (λ t. AnswersPlans policy t (map (at_by asked t) (paths_of asked places tree)) c.plan_paths.result) same
    (subst (λ ps. AnswersPlans policy (tree_of (g.S.Store.files c.find_selected.new.store))
    (map (at_by asked (tree_of (g.S.Store.files c.find_selected.new.store))) ps) c.plan_paths.result) selected
    (c.plan_paths.ensures.plans honest shown)))

pub returns-then-gives_root-clause-unused : goal.returns-then-gives_root-clause-unused
returns-then-gives_root-clause-unused g c honest =
    let asked = c.args.asked.now in
    let places = c.args.places.now in
    on_ok c.refused_alone.result _
    (unused_none (works_on asked) (scope_of asked) places (tree_of (g.S.Store.files c.args.store.now)) c.none.result
    (not_recursive (scope_of asked) places (ap (is_root_given places) (sym c.scope.ensures) ∙ sym c.gives_root.ensures
    ∙ c.if-gives_root.true)) c.none.ensures.names c.none.ensures.globs)

pub returns-in-Ok-clause-unused : goal.returns-in-Ok-clause-unused
returns-in-Ok-clause-unused g c honest =
    let read = c.plan_paths.ensures.asks.reads.was_honest honest in
    on_ok c.plan_paths.result _
    (of_ok c.find_selected.result c.in-Ok.selected _ c.in-Ok.is (c.find_selected.ensures.unused read))
