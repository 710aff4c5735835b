use Rattle.std.proofs.Common.{◌∙◌, ap}
use Rattle.reuse_change.specs.Path.{lies_under}
use Rattle.reuse_change.proofs.ListingLemmas.{folder_found, folder_none}
use Rattle.reuse_change.proofs.listing.is_folder.Goals as goal

pub returns-then-at-paths : goal.returns-then-at-paths
returns-then-at-paths c sorted =
    folder_found c.args.paths.now c.args.folder.now c.in_ok-at.at c.index-paths-at.result c.lies_under.result sorted
    (c.in_ok-at.ensures.bound sorted) c.if-at-paths.true
    (c.lies_under.ensures ∙ ap (λ p. lies_under p c.args.folder.now) c.index-paths-at.is)

pub returns-else-at-paths : goal.returns-else-at-paths
returns-else-at-paths c sorted =
    folder_none c.args.paths.now c.args.folder.now c.in_ok-at.at sorted
    (c.in_ok-at.ensures.bound sorted) c.if-at-paths.false
