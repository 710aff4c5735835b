-- The names of paths, counted.
use Rattle.std.specs.Prelude.{ℕ, Bool, ◌==◌, List, map, Option, is_some, find, count_by, if◌then◌else◌}
use Rattle.std.specs.List.{after_last, filter_map}
use Rattle.std.specs.Option.{option_map}
use Rattle.std.specs.Str.{bytes_eq, str_to_ascii_lowercase}
use Rattle.reuse_notice.specs.Sets.{set_of}
use Rattle.reuse_style.specs.Names.{slash, dot, from_last}
use Rattle.reuse_ready.specs.declared.name_count.NameCount.{NameCount}
use Rattle.reuse_ready.specs.Ready.{ready_style}

-- the name of a path: its last part where the ready tables have that, else what stands there from the last dot on
abbrev pub name_of : List ℕ → List ℕ
name_of path =
    let part = after_last (λ b. b == slash) path in
    if is_some (ready_style part) then part else from_last (λ b. b == dot) part

-- a name is this one in lower case
abbrev pub is_spelling : List ℕ → List ℕ → Bool
is_spelling lowered name = bytes_eq (str_to_ascii_lowercase name) lowered

-- the first spelling of a name in lower case, with how often it stands in some names in any spelling, and its ready
-- style
abbrev pub row_of : List (List ℕ) → List ℕ → Option NameCount
row_of names lowered = option_map (λ first. record {
  name = first;
  count = count_by (is_spelling lowered) names;
  style = ready_style first;
}) (find (is_spelling lowered) names)

-- the rows of names, in byte order of the names in lower case
abbrev pub rows_of : List (List ℕ) → List NameCount
rows_of names = filter_map (row_of names) (set_of (map str_to_ascii_lowercase names))

-- the rows of the names of paths
unfoldable pub tally : List (List ℕ) → List NameCount
tally paths = rows_of (map name_of paths)
