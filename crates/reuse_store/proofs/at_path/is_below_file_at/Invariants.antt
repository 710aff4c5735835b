use Rattle.std.proofs.Common.{◌≡◌, ℕ, ◌<◌, false, get_or, take}
use Rattle.std.specs.FinMap.{keys}
use Rattle.reuse_store.specs.Asked.{OnlyReads}
use Rattle.reuse_change.specs.Listing.{is_among}
use Rattle.reuse_store.proofs.at_path.is_below_file_at.Given as goal

-- nothing but readings so far, and none of the parts so far is a file
abbrev pub invariant-loop-at : goal.invariant-loop-at
invariant-loop-at g l =
    let store = g.S.Store in
    record {
      reads : OnlyReads store l.fn.store l.store;
      none : store.honest l.store → (k : ℕ) → k < l.at → get_or l.fn.path k 0 ≡ 47
          → is_among (keys (store.files l.fn.store)) (take k l.fn.path) ≡ false;
    }
