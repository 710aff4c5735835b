use Rattle.std.proofs.Common.{take, drop, sym, ap, ◌∙◌}
use Rattle.std.specs.List.{prefix_len}
use Rattle.std.proofs.lemmas.List.{take_rest}
use Rattle.reuse_change.specs.Path.{lies_under}
use Rattle.reuse_change.proofs.ListingLemmas.{beneath_at}
use Rattle.reuse_change.proofs.listing.paths_beneath.Goals as goal

pub returns : goal.returns
returns c sorted =
    let rest = take_rest c.args.paths.now c.in_ok-at.at in
    ap (take c.count_beneath-count.result) rest
    ∙ ap (λ n. take n (drop c.in_ok-at.at c.args.paths.now))
    (c.count_beneath-count.ensures ∙ ap (prefix_len (λ path. lies_under path c.args.folder.now)) rest)
    ∙ sym (beneath_at c.args.paths.now c.args.folder.now c.in_ok-at.at sorted (c.in_ok-at.ensures.bound sorted))
