-- Trees: which paths are of the tree, and how two trees differ.
use Rattle.std.specs.Prelude.{◌≡◌, ◌≢◌, ℕ, Bool, true, false, not, ◌&&◌, List, ◌++◌, Option, Some, None}
use Rattle.std.specs.Ordering.{nat_cmp}
use Rattle.std.specs.Cmp.Lexicographic.{slice_cmp}
use Rattle.std.specs.Str.{bytes_eq}
use Rattle.std.specs.FinMap.{get, keys, entries, from_entries, retain_keys}
use Rattle.reuse_change.specs.Layout.{above_journal, journal_folder}
use Rattle.reuse_change.specs.Path.{lies_under}
use Rattle.reuse_change.specs.Files.{Files}

-- a path that a file of a tree can have beside a journal: neither `.reuse` nor `.reuse/undo`, and not under
-- `.reuse/undo/`
abbrev pub is_of_tree : List ℕ → Bool
is_of_tree path =
    not (bytes_eq path above_journal) && not (bytes_eq path journal_folder) && not (lies_under path journal_folder)

-- the files that are no part of the tree: those under `.reuse/undo/`
abbrev pub undo_folder_of : Files → Files
undo_folder_of files = retain_keys files (λ path. lies_under path journal_folder)

-- the path holds this then, and each other path what it held
pub record Sets (path : List ℕ) (file : Option (List ℕ)) (before after : Files) : Type 0 where
  pub here : get after path ≡ file
  pub elsewhere : (other : List ℕ) → other ≢ path → get after other ≡ get before other

-- whether two files are equal, or both absent
abbrev pub same_file : Option (List ℕ) → Option (List ℕ) → Bool
same_file None None = true
same_file (Some old) (Some new) = bytes_eq old new
same_file None (Some new) = false
same_file (Some old) None = false

-- the paths at which the trees differ, in byte order
unfoldable pub changed_paths : Files → Files → List (List ℕ)
changed_paths before after =
    keys (retain_keys (from_entries {R = slice_cmp nat_cmp} (entries before ++ entries after))
    (λ path. not (same_file (get before path) (get after path))))
