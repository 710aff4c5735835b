use Rattle.std.proofs.Common.{rules}
use Rattle.std.specs.Ordering.{nat_cmp, is_lt}
use Rattle.std.specs.Cmp.Lexicographic.{slice_cmp}
use Rattle.std.proofs.lemmas.List.Sorted.{IsPartitionPoint-from_clause}
use Rattle.reuse_change.proofs.ListingLemmas.{below_first}
use Rattle.reuse_change.proofs.listing.lower_bound.Goals as goal

pub returns-clause-bound : goal.returns-clause-bound
returns-clause-bound c sorted =
    IsPartitionPoint-from_clause
    (λ k. is_lt (slice_cmp nat_cmp k c.args.target.now)) _ _ c.partition_point.ensures.partitioned
    (below_first c.args.target.now c.args.paths.now sorted) (λ a r q k. search rules)
