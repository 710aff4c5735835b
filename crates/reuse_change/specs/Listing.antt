-- The paths of a tree, as its listing has them, and what stands at a path by them.
use Rattle.std.specs.Prelude.{ℕ, Bool, true, not, ◌&&◌, ◌||◌, List, [], ◌∷◌, filter}
use Rattle.std.specs.List.{list_any}
use Rattle.std.specs.Str.{bytes_eq}
use Rattle.std.specs.FinMap.{keys}
use Rattle.std.specs.List.Sorted.{IsStrictlySortedBy}
use Rattle.std.specs.Ordering.{nat_cmp}
use Rattle.std.specs.Cmp.Lexicographic.{slice_cmp}
use Rattle.reuse_change.specs.Path.{lies_under, folders_above}
use Rattle.reuse_change.specs.Files.{Files}

-- paths in byte order, without repeats
abbrev pub ArePaths : List (List ℕ) → Type 0
ArePaths paths = IsStrictlySortedBy (slice_cmp nat_cmp) paths

-- the path is one of these
abbrev pub is_among : List (List ℕ) → List ℕ → Bool
is_among paths path = list_any (λ other. bytes_eq path other) paths

-- one of these lies under the path
abbrev pub is_folder_of : List (List ℕ) → List ℕ → Bool
is_folder_of paths path = list_any (λ other. lies_under other path) paths

-- some file of the tree lies under the path
abbrev pub is_folder : Files → List ℕ → Bool
is_folder tree path = is_folder_of (keys tree) path

-- the path is one of these folders or lies under one; where no folder is given, each path is asked for
abbrev pub is_asked : List (List ℕ) → List ℕ → Bool
is_asked [] path = true
is_asked (folder ∷ folders) path = list_any (λ place. bytes_eq path place || lies_under path place) (folder ∷ folders)

-- a folder above the path is pruned
abbrev pub is_pruned : (List ℕ → Bool) → List ℕ → Bool
is_pruned prunes path = list_any prunes (folders_above path)

-- the path is asked for, and not pruned
abbrev pub is_wanted : List (List ℕ) → (List ℕ → Bool) → List ℕ → Bool
is_wanted folders prunes path = is_asked folders path && not (is_pruned prunes path)

-- what a listing of these folders gives: in order, the paths of the files that are wanted
abbrev pub listed_paths : Files → List (List ℕ) → (List ℕ → Bool) → List (List ℕ)
listed_paths files folders prunes = filter (is_wanted folders prunes) (keys files)
