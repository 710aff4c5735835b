-- What a listing of a part of the tree shows of a path.
use Rattle.std.specs.Prelude.{◌≡◌, ℕ, Bool, List, [], ◌∷◌, length, nat_lt, filter, flat_map, true, if◌then◌else◌}
use Rattle.std.specs.List.{All}
use Rattle.std.specs.FinMap.{keys}
use Rattle.reuse_change.specs.Clash.{is_clash, is_clash_of}
use Rattle.reuse_change.specs.Files.{Files}
use Rattle.reuse_change.specs.Listing.{ArePaths, is_among, is_folder, is_folder_of}
use Rattle.reuse_edit.specs.Annotate.{neighbour_of}
use Rattle.reuse_change.specs.Path.{lies_under}
use Rattle.reuse_command.specs.Command.{has_root}
use Rattle.reuse_edit.specs.Licence.{licence_path}
use Rattle.reuse_command.specs.declared.command.Place.{Place}
use Rattle.reuse_command.specs.declared.command.Place.TheVariants.{Root, Path}
use Rattle.reuse_plan.specs.declared.select.Listing.{Listing}
use Rattle.reuse_plan.specs.declared.select.Listing.TheVariants.{Listed, Alone}
use Rattle.reuse_edit.specs.Pair.{ShowsPair}

-- these paths, which are in byte order, have the path exactly if the tree has it, and it clashes with them exactly if
-- it does with the tree
pub record Shows (paths : List (List ℕ)) (tree : Files) (path : List ℕ) : Type 0 where
  pub ordered : ArePaths paths
  pub there : is_among paths path ≡ is_among (keys tree) path
  pub clash : is_clash_of paths path ≡ is_clash tree path

-- so it is at the path of each licence
pub record ShowsLicences (paths : List (List ℕ)) (tree : Files) : Type 0 where
  pub each : (id : List ℕ) → Shows paths tree (licence_path id)

-- the listing, if there is one, shows the path and its neighbour
abbrev pub ShowsOne : Listing → Files → List ℕ → Type 0
ShowsOne (Listed paths) tree path = ShowsPair paths tree path
ShowsOne Alone tree path = Unit {0}

-- so it does of each of these
pub record ShowsEach (listing : Listing) (tree : Files) (paths : List (List ℕ)) : Type 0 where
  pub each : All (ShowsOne listing tree) paths

-- the path of the neighbour, unless that is over 4,096 bytes
abbrev pub neighbours_of : List ℕ → List (List ℕ)
neighbours_of path = if nat_lt 4096 (length (neighbour_of path)) then [] else neighbour_of path ∷ []

-- these paths, each with its neighbour behind it
abbrev pub with_neighbours : List (List ℕ) → List (List ℕ)
with_neighbours paths = flat_map (λ path. path ∷ neighbours_of path) paths

-- the folders that are listed for these places, among which these paths are given: the whole tree where the root is one
-- of the places
abbrev pub folders_for : List Place → List (List ℕ) → List (List ℕ)
folders_for places given = if has_root places then [] else with_neighbours given

-- beneath the folder, these paths have the files that are chosen, and no others than the tree
pub record ShowsBeneath (chooses : List ℕ → Bool) (paths : List (List ℕ)) (tree : Files)
    (folder : List ℕ) : Type 0 where
  pub chosen : filter chooses (filter (λ other. lies_under other folder) paths) ≡ filter chooses
      (filter (λ other. lies_under other folder) (keys tree))
  pub some : is_folder_of paths folder ≡ true → is_folder tree folder ≡ true

-- so they do beneath the place
abbrev pub ShowsPlace : (List ℕ → Bool) → List (List ℕ) → Files → Place → Type 0
ShowsPlace chooses paths tree Root = filter chooses paths ≡ filter chooses (keys tree)
ShowsPlace chooses paths tree (Path folder) = ShowsBeneath chooses paths tree folder
