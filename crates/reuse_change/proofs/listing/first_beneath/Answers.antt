use Rattle.std.proofs.Common.{◌≡◌, [], ◌∷◌, ◌++◌, subst, true, false, rules}
use Rattle.std.specs.Ordering.{nat_cmp, is_lt}
use Rattle.std.specs.Cmp.Lexicographic.{slice_cmp}
use Rattle.std.specs.List.Sorted.{IsPartitionPoint}
use Rattle.reuse_change.proofs.listing.first_beneath.Goals as goal

pub returns-clause-bound : goal.returns-clause-bound
returns-clause-bound c sorted =
    let first : c.as_slice.result.now ≡ c.args.folder.now ++ 47 ∷ [] = search rules in
    subst (λ t. IsPartitionPoint (λ k. is_lt (slice_cmp nat_cmp k t) ≡ true) (λ k. is_lt
    (slice_cmp nat_cmp k t) ≡ false) c.args.paths.now c.lower_bound.result) first (c.lower_bound.ensures.bound sorted)
