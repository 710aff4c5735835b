use Rattle.std.proofs.Common.{◌≡◌, take, flat_map, All}
use Rattle.reuse_command.specs.Reading.{OnlyReads, tree_of}
use Rattle.reuse_change.specs.Listing.{ArePaths}
use Rattle.reuse_plan.specs.Shown.{ShowsPlace}
use Rattle.reuse_plan.specs.FileTask.{chooses}
use Rattle.reuse_plan.specs.Selected.{expanded}
use Rattle.reuse_plan.proofs.select.expanded.Given as goal

-- nothing but readings so far, and what stands in the place of the places so far
abbrev pub invariant-loop-place : goal.invariant-loop-place
invariant-loop-place g l =
    let store = g.S.Store in
    record {
      reads : OnlyReads store l.fn.store l.store;
      found : store.honest l.store → ArePaths l.paths
          → All (ShowsPlace (chooses l.asked) l.paths (tree_of (store.files l.fn.store))) l.places
          → l.found.items ≡ flat_map (expanded (chooses l.asked) (tree_of (store.files l.fn.store)))
          (take l.place-index l.places);
    }
