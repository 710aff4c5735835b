use Rattle.std.proofs.Common.{arith, ◌≡◌, ◌∙◌, sym, ap, ap₂, subst, IfErr, ◌+◌, ◌||◌, nat_lt, List, length}
use Rattle.std.proofs.Common.{filter_map, IsPermutation}
use Rattle.std.proofs.lemmas.List.Sorted.{length_permutation, sum_by-IsPermutation}
use Rattle.std.proofs.lemmas.Result.{err_from_is_err_and}
use Rattle.reuse_change.specs.Files.{Files, tree_of}
use Rattle.reuse_change.specs.declared.change.Change.{Change}
use Rattle.reuse_change.specs.Entry.{change_size, entry_size}
use Rattle.reuse_plan.specs.Counted.{harmed_planned, skipped_planned}
use Rattle.reuse_plan.specs.Outcome.{outcome_of, path_edits_of, edits_of, tree_after}
use Rattle.reuse_edit.specs.PathPlans.{ArePlansOf}
use Rattle.reuse_plan.specs.Planned.{changes_planned, left_planned_by}
use Rattle.reuse_command.specs.declared.command.Command.{Command}
use Rattle.reuse_edit.specs.declared.path_plan.PathPlan.{PathPlan}
use Rattle.reuse_edit.specs.declared.path_plan.Policy.TheVariants.{Stop}
use Rattle.reuse_plan.proofs.PathPlanning.{changes_made, none_refused}
use Rattle.reuse_edit.specs.Answered.{IsRefusalOf, MakesEdits}
use Rattle.reuse_store.proofs.TreeLemmas.{tree_are_files}
use Rattle.reuse_edit.proofs.AbsentFiles.{refusal_passes}
use Rattle.reuse_plan.proofs.Annotating.{too_many}
use Rattle.reuse_plan.proofs.Counting.{harms_are, left_are, none_left, skips_are}
use Rattle.reuse_plan.proofs.EditOrder.{sorted_plan}
use Rattle.reuse_plan.proofs.Fitting.{command_fits}
use Rattle.reuse_plan.proofs.run.plan.Goals as goal

-- as many in another order
as_many : (changes sorted : List Change) → IsPermutation changes sorted
    → (nat_lt 100_000 (length sorted) || nat_lt 268_435_456 (entry_size sorted))
    ≡ (nat_lt 100_000 (length changes) || nat_lt 268_435_456 (entry_size changes))
as_many changes sorted moved = ap₂ (λ m n. nat_lt 100_000 m || nat_lt 268_435_456 (256 + n))
    (length_permutation changes sorted moved) (sum_by-IsPermutation change_size changes sorted moved)

-- the changes are those of the edits
made : (command : Command) (tree : Files) (plans : List PathPlan) (changes : List Change)
    → ArePlansOf Stop tree (path_edits_of command tree) plans → changes ≡ changes_planned plans
    → MakesEdits tree (edits_of command tree) changes
made command tree plans changes are is =
    subst (MakesEdits tree (edits_of command tree)) (sym is) (changes_made Stop tree
    (path_edits_of command tree) plans are (none_refused tree (path_edits_of command tree) plans are))

pub returns-in_err-plans-clause-refusal : goal.returns-in_err-plans-clause-refusal
unfolding outcome_of
returns-in_err-plans-clause-refusal g c honest =
    let tree = tree_of (g.S.Store.files c.args.store.now) in
    let p = err_from_is_err_and c.from_residual.result c.from_residual.ensures.1 in
    subst (λ x. IfErr x (λ refusal. IsRefusalOf
    (outcome_of c.args.command.now (tree_of (g.S.Store.files c.args.store.now))) refusal)) (sym p.1)
    (subst (λ r. IsRefusalOf (outcome_of c.args.command.now (tree_of (g.S.Store.files c.args.store.now))) r) (sym p.2)
    (refusal_passes (edits_of c.args.command.now tree) (tree_after tree (edits_of c.args.command.now tree))
    (λ r e. ap (tree_after (tree_of (g.S.Store.files c.args.store.now))) e) c.in_err-plans.field-0.0
    (c.in_err-plans.ensures.plans honest)))

pub returns-then-is_too_many-clause-refusal : goal.returns-then-is_too_many-clause-refusal
unfolding outcome_of
returns-then-is_too_many-clause-refusal g c honest =
    let tree = tree_of (g.S.Store.files c.args.store.now) in
    let changes = c.in_ok-changes_planned.field-0.items in
    too_many tree (edits_of c.args.command.now tree) changes (made c.args.command.now tree c.in_ok-plans.plans.items
    changes (c.in_ok-plans.ensures.plans honest) c.in_ok-changes_planned.ensures)
    (sym (as_many changes c.sorted-changes.result.items c.sorted-changes.ensures.moved)
    ∙ ap (λ cs. nat_lt 100_000 (length cs) || nat_lt 268_435_456 (entry_size cs)) (sym c.deref-4.ensures.value)
    ∙ sym c.is_too_many.ensures ∙ c.if-is_too_many.true)

pub returns-clause-changes : goal.returns-clause-changes
unfolding outcome_of
returns-clause-changes g c honest =
    let files = g.S.Store.files c.args.store.now in
    let changes = c.in_ok-changes_planned.field-0.items in
    let are = tree_are_files files
    (g.met.S.Store.are_files c.args.store.now (c.in_ok-plans.ensures.asks.reads.was_honest honest)) in
    sorted_plan (tree_of files) (edits_of c.args.command.now (tree_of files)) changes c.sorted-changes.result.items are
    (made c.args.command.now (tree_of files) c.in_ok-plans.plans.items changes
    (c.in_ok-plans.ensures.plans honest) c.in_ok-changes_planned.ensures)
    c.sorted-changes.ensures.moved c.sorted-changes.ensures.sorted
    (command_fits c.args.command.now (tree_of files) c.in_ok-plans.ensures.entry are)
    (ap (λ cs. nat_lt 100_000 (length cs) || nat_lt 268_435_456 (entry_size cs)) (sym c.deref-4.ensures.value)
    ∙ sym c.is_too_many.ensures ∙ c.if-is_too_many.false)

pub returns-clause-recorded : goal.returns-clause-recorded
returns-clause-recorded g c honest = (
  c.in_ok-changes_planned.field-0.items,
  c.sorted-changes.ensures.moved,
  made c.args.command.now (tree_of (g.S.Store.files c.args.store.now)) c.in_ok-plans.plans.items
      c.in_ok-changes_planned.field-0.items (c.in_ok-plans.ensures.plans honest) c.in_ok-changes_planned.ensures,
)

pub returns-clause-left : goal.returns-clause-left
returns-clause-left g c honest =
    c.in_ok-left.ensures ∙ ap (left_planned_by c.args.command.now) c.deref-3.ensures.value
    ∙ left_are Stop c.args.command.now (tree_of (g.S.Store.files c.args.store.now)) c.in_ok-plans.plans.items
    (c.in_ok-plans.ensures.plans honest)

pub returns-clause-none : goal.returns-clause-none
returns-clause-none g c none = c.in_ok-left.ensures ∙ none_left c.args.command.now c.deref-3.result.now none

pub returns-clause-counts : goal.returns-clause-counts
returns-clause-counts g c honest =
    let plans = c.in_ok-plans.plans.items in
    record {
      skipped = c.skipped_planned-counts.ensures ∙ ap skipped_planned c.deref.ensures.value
          ∙ skips_are Stop c.args.command.now (tree_of (g.S.Store.files c.args.store.now)) plans
          (c.in_ok-plans.ensures.plans honest);
      unused = c.in_ok-plans.ensures.unused honest;
      harms = c.in_ok-counts.ensures ∙ ap (filter_map harmed_planned) c.deref-2.ensures.value
          ∙ harms_are Stop (tree_of (g.S.Store.files c.args.store.now))
          (path_edits_of c.args.command.now (tree_of (g.S.Store.files c.args.store.now))) plans
          (c.in_ok-plans.ensures.plans honest);
      left = omega (arith, c.len-counts.ensures, c.in_ok-left.left.ok.0) ∙ ap length (returns-clause-left g c honest);
    }
