use Rattle.std.proofs.Common.{rules, of_calls}
use Rattle.std.specs.Cmp.Lexicographic.{nat_list_cmp_total}
use Rattle.std.proofs.lemmas.Fn.{always_returns_same}
use Rattle.std.proofs.lemmas.List.Sorted.{ranks_by}
use Rattle.reuse_change.specs.Change.{path_of}
use Rattle.reuse_plan.specs.Plan.{is_before}
use Rattle.reuse_plan.proofs.run.sorted.Goals as goal

pub returns-clause-sorted : goal.returns-clause-sorted
returns-clause-sorted c =
    c.sort_unstable_by.ensures.sorted is_before (ranks_by nat_list_cmp_total path_of)
    (always_returns_same _ _ _ (λ a r f k. search (rules, of_calls)))
