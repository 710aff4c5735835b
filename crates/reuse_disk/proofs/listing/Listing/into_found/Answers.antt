use Rattle.reuse_disk.proofs.Listed.{in_order}
use Rattle.reuse_disk.proofs.listing.Listing.into_found.Goals as goal

pub returns-clause-ignored : goal.returns-clause-ignored
returns-clause-ignored g c = in_order _ _ c.sort_unstable.ensures.permutation c.args.self.in_tree
