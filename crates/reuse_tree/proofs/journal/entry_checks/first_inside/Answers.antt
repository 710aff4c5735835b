use Rattle.std.proofs.Common.{rules, sym, ◌∙◌, arith, eqb-true, length, ◌++◌, ◌∷◌, [], nat_cmp}
use Rattle.std.specs.Ordering.{is_lt}
use Rattle.std.specs.Cmp.Lexicographic.{slice_cmp}
use Rattle.std.proofs.lemmas.List.Sorted.{IsPartitionPoint-from_clause}
use Rattle.reuse_change.specs.Change.{path_of}
use Rattle.reuse_tree.proofs.EntryPaths.{below_parts, none_before}
use Rattle.reuse_tree.proofs.journal.entry_checks.first_inside.Goals as goal
use Rattle.reuse_tree.proofs.journal.entry_checks.first_inside.Goals.{then-is_empty-via-then-is_empty}
use Rattle.reuse_tree.proofs.journal.entry_checks.first_inside.Goals.{
  then-is_empty-via-else-is_empty+then-not-precedes_inside,
}

pub returns-clause-point : goal.returns-clause-point
returns-clause-point c =
    let first = c.args.folder.now ++ 47 ∷ [] in
    IsPartitionPoint-from_clause (λ x. is_lt (slice_cmp nat_cmp (path_of x) first)) c.args.later.now
    c.partition_point.result c.partition_point.ensures.partitioned
    (below_parts first c.args.later.now c.requires)
    (λ a r f called. search rules)

pub returns-then-is_empty-clause-point : goal.returns-then-is_empty-clause-point
returns-then-is_empty-clause-point c =
    let first = c.args.folder.now ++ 47 ∷ [] in
    elim c.then-is_empty.branch [
      | then-is_empty-via-then-is_empty w ↦ (
        λ k d low high. absurd (omega (arith, high)),
        λ k d low high. absurd
            (omega (arith, high, eqb-true (length c.args.later.now) 0 (sym c.is_empty.ensures ∙ w.if-is_empty.true))),
      )
      | then-is_empty-via-else-is_empty+then-not-precedes_inside w ↦
          none_before (λ x. is_lt (slice_cmp nat_cmp (path_of x) first)) c.args.later.now w.index-later-0.result
          (below_parts first c.args.later.now c.requires) w.index-later-0.is
          (sym w.precedes_inside.ensures ∙ w.if-not-precedes_inside.true)
    ]
