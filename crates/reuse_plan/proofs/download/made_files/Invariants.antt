use Rattle.std.proofs.Common.{◌≡◌, map}
use Rattle.std.specs.List.{AllByRecursion}
use Rattle.reuse_plan.specs.DownloadPlan.{made_at, HasText}
use Rattle.reuse_plan.proofs.download.made_files.Given as goal

abbrev pub invariant-loop-path : goal.invariant-loop-path
invariant-loop-path l = record {
  made : l.changes.items ≡ map (made_at l.texts) l.yielded;
  left : AllByRecursion (HasText l.texts) l.path-iterator.rest.items;
}
