-- Files: what each path holds.
use Rattle.std.specs.Prelude.{ℕ, not, ◌||◌, IsTrue, List, IsSome}
use Rattle.std.specs.Ordering.{nat_cmp}
use Rattle.std.specs.Cmp.Lexicographic.{slice_cmp}
use Rattle.std.specs.FinMap.{FinMap, get, retain_keys}
use Rattle.reuse_change.specs.Path.{is_path, lies_under, journal_folder}

-- from the bytes of a path to the bytes of its file, the paths in byte order
abbrev pub Files : Type 0
Files = FinMap (slice_cmp nat_cmp) (List ℕ)

-- no file can be made at the path: it is a folder, or a part above it is a file
pub record Clashes (files : Files) (path : List ℕ) : Type 0 where
  pub other : List ℕ
  pub is_file : IsSome (get files other)
  pub nested : IsTrue (lies_under other path || lies_under path other)

-- the files have good paths, and none of these is a folder of another
pub record AreFiles (files : Files) : Type 0 where
  pub are_paths : (path : List ℕ) → IsSome (get files path) → IsTrue (is_path path)
  pub apart : (path : List ℕ) → IsSome (get files path) → ¬ (Clashes files path)

-- the files that are no part of the journal
abbrev pub tree_of : Files → Files
tree_of files = retain_keys files (λ path. not (lies_under path journal_folder))
