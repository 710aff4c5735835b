-- Which files annotate treats, by their paths (docs/RULES.md, "Which files annotate writes").
use Rattle.std.specs.Prelude.{ℕ, Bool, not, ◌&&◌, ◌||◌, ◌==◌, nat_eq, List, length, codes, slice_index}
use Rattle.std.specs.List.{after_last, starts_with, ends_with}
use Rattle.std.specs.Str.{bytes_eq}

-- the last part of a path
abbrev pub last_part : List ℕ → List ℕ
last_part path = after_last (λ byte. byte == 47) path

-- the path is the folder's, or goes on by a slash
abbrev pub is_in : List ℕ → List ℕ → Bool
is_in folder path =
    starts_with nat_eq path folder && (length path == length folder || slice_index path (length folder) == 47)

-- the first part of the path is one whose files are not covered
abbrev pub is_outside : List ℕ → Bool
is_outside path = is_in (codes "LICENSES") path || is_in (codes ".reuse") path || is_in (codes ".git") path

-- a name that is the stem alone, or goes on by `.` or `-`
abbrev pub has_stem : List ℕ → List ℕ → Bool
has_stem stem name =
    starts_with nat_eq name stem
    && (length name == length stem || slice_index name (length stem) == 46 || slice_index name (length stem) == 45)

-- a name of a file that holds licensing information, or a licence
abbrev pub is_outer_name : List ℕ → Bool
is_outer_name name =
    ends_with nat_eq name (codes ".license") || ends_with nat_eq name (codes ".spdx") || bytes_eq name
    (codes "REUSE.toml")
    || has_stem (codes "LICENSE") name || has_stem (codes "LICENCE") name || has_stem (codes "COPYING") name

-- neither in such a folder nor of such a name
abbrev pub is_covered : List ℕ → Bool
is_covered path = not (is_outside path) && not (is_outer_name (last_part path))
