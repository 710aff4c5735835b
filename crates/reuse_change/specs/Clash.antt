-- Where a file can't be made, by the paths of a tree.
use Rattle.std.specs.Prelude.{ℕ, Bool, ◌||◌, List}
use Rattle.std.specs.List.{list_any}
use Rattle.std.specs.FinMap.{keys}
use Rattle.reuse_change.specs.Path.{lies_under}
use Rattle.reuse_change.specs.Files.{Files}

-- the path is a folder, or a part above it is a file
abbrev pub is_clash_of : List (List ℕ) → List ℕ → Bool
is_clash_of paths path = list_any (λ other. lies_under other path || lies_under path other) paths

abbrev pub is_clash : Files → List ℕ → Bool
is_clash tree path = is_clash_of (keys tree) path
