-- What a listing of a part of the tree shows of a path and of its neighbour.
use Rattle.std.specs.Prelude.{◌≡◌, ℕ, false, List}
use Rattle.std.specs.FinMap.{keys}
use Rattle.reuse_change.specs.Files.{Files}
use Rattle.reuse_change.specs.Listing.{ArePaths, is_among, is_folder, is_folder_of}
use Rattle.reuse_edit.specs.Annotate.{neighbour_of}

-- these paths, which are in byte order, have the path and its neighbour exactly if the tree has them; where it lacks
-- the path, that is a folder of these exactly if it is one of the tree
pub record ShowsPair (paths : List (List ℕ)) (tree : Files) (path : List ℕ) : Type 0 where
  pub ordered : ArePaths paths
  pub there : is_among paths path ≡ is_among (keys tree) path
  pub beside : is_among paths (neighbour_of path) ≡ is_among (keys tree) (neighbour_of path)
  pub folder : is_among (keys tree) path ≡ false → is_folder_of paths path ≡ is_folder tree path
