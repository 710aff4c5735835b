use Rattle.std.proofs.Common.{◌≡◌, ◌+◌, drop}
use Rattle.std.specs.List.{prefix_len}
use Rattle.reuse_change.specs.Path.{lies_under}
use Rattle.reuse_change.proofs.listing.count_beneath.Given as goal

abbrev pub invariant-loop-count : goal.invariant-loop-count
invariant-loop-count l = prefix_len (λ path. lies_under path l.folder) l.paths ≡ l.count + prefix_len
    (λ path. lies_under path l.folder) (drop l.count l.paths)
