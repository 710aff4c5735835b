use Rattle.std.proofs.Common.{◌∙◌, ap}
use Rattle.std.specs.Str.{bytes_eq}
use Rattle.reuse_change.proofs.ListingLemmas.{among_found, among_none}
use Rattle.reuse_change.proofs.listing.is_among.Goals as goal

pub returns-then-at-paths : goal.returns-then-at-paths
returns-then-at-paths c sorted =
    among_found c.args.paths.now c.args.path.now c.lower_bound-at.result c.index-paths-at.result c.eq.result sorted
    (c.lower_bound-at.ensures.bound sorted) c.if-at-paths.true
    (c.eq.ensures ∙ ap (bytes_eq c.args.path.now) (c.as_bytes.ensures.bytes ∙ c.index-paths-at.is))

pub returns-else-at-paths : goal.returns-else-at-paths
returns-else-at-paths c sorted =
    among_none c.args.paths.now c.args.path.now c.lower_bound-at.result sorted
    (c.lower_bound-at.ensures.bound sorted) c.if-at-paths.false
