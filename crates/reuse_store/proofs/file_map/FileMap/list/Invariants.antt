use Rattle.std.proofs.Common.{◌≡◌, ◌++◌, filter}
use Rattle.std.specs.BTreeMap.{keys}
use Rattle.reuse_change.specs.Listing.{is_wanted}
use Rattle.reuse_store.proofs.file_map.FileMap.list.Given as goal

-- the paths so far, and those that are wanted of what is left
abbrev pub invariant-loop-path : goal.invariant-loop-path
invariant-loop-path g l =
    let wanted = is_wanted l.folders (g.P.Pruning.prunes l.pruning) in
    l.paths.items ++ filter wanted l.path-iterator ≡ filter wanted (keys l.fn.self.contents)
