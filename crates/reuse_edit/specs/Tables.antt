-- Which paths are those of tables, the files `REUSE.toml`, and on which paths amend works (docs/RULES.md, "What amend
-- writes").
use Rattle.std.specs.Prelude.{ℕ, Bool, not, ◌&&◌, ◌||◌, List, codes}
use Rattle.std.specs.Str.{bytes_eq}
use Rattle.reuse_command.specs.Covered.{last_part, is_outside, is_covered}

abbrev pub toml_path : List ℕ
toml_path = codes "REUSE.toml"

-- a file of the name `REUSE.toml`, in no folder whose files are not covered
abbrev pub is_table : List ℕ → Bool
is_table path = not (is_outside path) && bytes_eq (last_part path) toml_path

-- amend works on a file of this path: it is covered, or a table
abbrev pub is_amendable : List ℕ → Bool
is_amendable path = is_covered path || is_table path
