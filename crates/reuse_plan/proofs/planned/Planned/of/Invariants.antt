use Rattle.std.proofs.Common.{◌≡◌, map}
use Rattle.std.specs.List.{list_any}
use Rattle.reuse_plan.specs.Planned.{changes_planned, path_outcome_planned, is_refusal}
use Rattle.reuse_plan.proofs.planned.Planned.of.Given as goal

abbrev pub invariant-loop-plan : goal.invariant-loop-plan
invariant-loop-plan l = record {
  path_outcomes : l.planned.path_outcomes.items ≡ map path_outcome_planned l.yielded;
  changes : l.planned.changes.items ≡ changes_planned l.yielded;
  refused : l.planned.is_refused ≡ list_any is_refusal l.yielded;
}
