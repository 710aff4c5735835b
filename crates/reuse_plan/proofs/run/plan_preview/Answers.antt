use Rattle.std.proofs.Common.{arith, ◌≡◌, ◌∙◌, ◌++◌, ◌+◌, ◌||◌, nat_lt, List, length, map, filter_map, sym, ap, ap₂, subst}
use Rattle.std.proofs.Common.{IsPermutation}
use Rattle.std.proofs.lemmas.List.Sorted.{length_permutation, sum_by-IsPermutation}
use Rattle.reuse_change.specs.Entry.{change_size, entry_size}
use Rattle.reuse_change.specs.Files.{tree_of}
use Rattle.reuse_change.specs.declared.change.Change.{Change}
use Rattle.reuse_store.proofs.TreeLemmas.{tree_are_files}
use Rattle.reuse_plan.specs.Counted.{harmed_planned, skipped_planned}
use Rattle.reuse_command.specs.declared.path_outcome.PathOutcome.TheVariants.{Left}
use Rattle.reuse_plan.specs.PathOutcomes.{path_outcomes_of, first_refusal}
use Rattle.reuse_plan.specs.Outcome.{edits_of, outcome_of, path_edits_of}
use Rattle.reuse_plan.specs.Planned.{left_planned_by, limit_planned}
use Rattle.reuse_edit.specs.Answered.{MakesEdits}
use Rattle.reuse_edit.specs.declared.path_plan.Policy.TheVariants.{Collect}
use Rattle.reuse_plan.proofs.Counting.{harms_are, left_are, skips_are}
use Rattle.reuse_plan.proofs.EditOrder.{sorted_plan}
use Rattle.reuse_plan.proofs.Fitting.{command_fits}
use Rattle.reuse_plan.proofs.PathPlanning.{path_outcomes_are, limit_is, accepted_few, accepted_made}
use Rattle.reuse_plan.proofs.run.plan_preview.Goals as goal

-- as many in another order
as_many : (changes sorted : List Change) → IsPermutation changes sorted
    → (nat_lt 100_000 (length sorted) || nat_lt 268_435_456 (entry_size sorted))
    ≡ (nat_lt 100_000 (length changes) || nat_lt 268_435_456 (entry_size changes))
as_many changes sorted moved = ap₂ (λ m n. nat_lt 100_000 m || nat_lt 268_435_456 (256 + n))
    (length_permutation changes sorted moved) (sum_by-IsPermutation change_size changes sorted moved)

pub returns-clause-path_outcomes : goal.returns-clause-path_outcomes
unfolding path_outcomes_of
returns-clause-path_outcomes g c honest =
    let tree = tree_of (g.S.Store.files c.args.store.now) in
    let all = path_edits_of c.args.command.now tree in
    let are = c.in_ok-plans.ensures.plans honest in
    let planned = c.in_ok-of in
    c.in_ok-with_limit.ensures.path_outcomes
    ∙ ap₂ (λ fs left. fs ++ map Left left) (ap₂ (λ fs more. fs ++ more)
    (planned.ensures.path_outcomes ∙ path_outcomes_are Collect tree all c.in_ok-plans.plans.items are)
    (ap₂ limit_planned planned.ensures.refused planned.ensures.changes
    ∙ limit_is Collect tree all c.in_ok-plans.plans.items are))
    (c.in_ok-left.ensures ∙ ap (left_planned_by c.args.command.now) c.deref-3.ensures.value
    ∙ left_are Collect c.args.command.now tree c.in_ok-plans.plans.items are)

pub returns-clause-changes : goal.returns-clause-changes
unfolding outcome_of
returns-clause-changes g c honest none =
    let files = g.S.Store.files c.args.store.now in
    let tree = tree_of files in
    let command = c.args.command.now in
    let plans = c.in_ok-plans.plans.items in
    let are = c.in_ok-plans.ensures.plans honest in
    let accepted = ap first_refusal (sym (returns-clause-path_outcomes g c honest)) ∙ none in
    let planned = c.in_ok-of in
    let limited = c.in_ok-with_limit in
    let changes = planned.field-0.changes.items in
    let made = subst (MakesEdits tree (edits_of command tree)) (sym planned.ensures.changes)
    (accepted_made command tree plans are accepted) in
    let few =
    ap (λ (cs : List Change). nat_lt 100_000 (length cs) || nat_lt 268_435_456 (entry_size cs)) planned.ensures.changes
    ∙ accepted_few command tree plans are accepted in
    let are_files = tree_are_files files
    (g.met.S.Store.are_files c.args.store.now (c.in_ok-plans.ensures.asks.reads.was_honest honest)) in
    sorted_plan tree
    (edits_of command tree) changes limited.field-0.changes are_files made limited.ensures.moved limited.ensures.sorted
    (command_fits command tree c.in_ok-plans.ensures.entry are_files)
    (as_many changes limited.field-0.changes limited.ensures.moved ∙ few)

pub returns-clause-recorded : goal.returns-clause-recorded
returns-clause-recorded g c honest none =
    let tree = tree_of (g.S.Store.files c.args.store.now) in
    let command = c.args.command.now in
    let accepted = ap first_refusal (sym (returns-clause-path_outcomes g c honest)) ∙ none in
    let planned = c.in_ok-of in (
      planned.field-0.changes.items,
      c.in_ok-with_limit.ensures.moved,
      subst (MakesEdits tree (edits_of command tree)) (sym planned.ensures.changes)
          (accepted_made command tree c.in_ok-plans.plans.items (c.in_ok-plans.ensures.plans honest) accepted),
    )

pub returns-clause-counts : goal.returns-clause-counts
returns-clause-counts g c honest =
    let plans = c.in_ok-plans.plans.items in
    record {
      skipped = c.skipped_planned-counts.ensures ∙ ap skipped_planned c.deref.ensures.value
          ∙ skips_are Collect c.args.command.now (tree_of (g.S.Store.files c.args.store.now)) plans
          (c.in_ok-plans.ensures.plans honest);
      unused = c.in_ok-plans.ensures.unused honest;
      harms = c.in_ok-counts.ensures ∙ ap (filter_map harmed_planned) c.deref-2.ensures.value
          ∙ harms_are Collect (tree_of (g.S.Store.files c.args.store.now))
          (path_edits_of c.args.command.now (tree_of (g.S.Store.files c.args.store.now))) plans
          (c.in_ok-plans.ensures.plans honest);
      left = omega (arith, c.len-counts.ensures, c.in_ok-left.left.ok.0) ∙ ap length (c.in_ok-left.ensures
          ∙ ap (left_planned_by c.args.command.now) c.deref-3.ensures.value
          ∙ left_are Collect c.args.command.now (tree_of (g.S.Store.files c.args.store.now)) plans
          (c.in_ok-plans.ensures.plans honest));
    }
