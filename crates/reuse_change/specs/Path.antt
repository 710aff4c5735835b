-- Paths of a tree, as bytes.
use Rattle.std.specs.Prelude.{ℕ, Bool, not, ◌&&◌, List, [], ◌∷◌, ◌++◌, map, length, nat_eq, nat_lt, nat_le, ◌==◌}
use Rattle.std.specs.Prelude.{slice_index, codes, if◌then◌else◌}
use Rattle.std.specs.List.{slice_split, starts_with, list_all}
use Rattle.std.specs.Str.{bytes_eq}
pub use Rattle.reuse_change.specs.Layout.{journal_folder}

-- a part that is neither empty, `.` nor `..`
abbrev pub is_part : List ℕ → Bool
is_part part = not (length part == 0) && not (bytes_eq part (codes ".")) && not (bytes_eq part (codes ".."))

-- no byte is NUL
abbrev pub has_no_nul : List ℕ → Bool
has_no_nul path = list_all (λ byte. not (byte == 0)) path

-- each part between two slashes is neither empty, `.` nor `..`
abbrev pub has_good_parts : List ℕ → Bool
has_good_parts path = list_all is_part (slice_split (λ byte. byte == 47) path)

-- 1 to 4,096 bytes without NUL, in good parts
abbrev pub is_path : List ℕ → Bool
is_path path = nat_lt 0 (length path) && nat_le (length path) 4096 && has_no_nul path && has_good_parts path

-- whether the path lies under the folder, at any depth: the folder's bytes, and then a slash
abbrev pub lies_under : List ℕ → List ℕ → Bool
lies_under path folder = starts_with nat_eq path folder && (slice_index path (length folder) == 47)

-- the folders above a path: what stands before each of its slashes
abbrev pub folders_above : List ℕ → List (List ℕ)
folders_above [] = []
folders_above (byte ∷ path) = (if byte == 47 then [] ∷ [] else []) ++ map (λ folder. byte ∷ folder) (folders_above path)
