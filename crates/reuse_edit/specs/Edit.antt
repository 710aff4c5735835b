-- What a command does at one path.
use Rattle.std.specs.Prelude.{ℕ, List, [], ◌++◌, take, drop, Option, Some, None, if◌then◌else◌}
use Rattle.std.specs.FinMap.{get}
use Rattle.std.specs.Str.{bytes_eq}
use Rattle.reuse_change.specs.Files.{Files}
use Rattle.reuse_text.specs.Difference.{difference_of}
use Rattle.reuse_text.specs.declared.difference.Difference.{Difference}

-- the bytes that it takes away there, those that it writes, and the file then
pub record Edit : Type 0 where
  pub path : List ℕ
  pub removed : List ℕ
  pub written : List ℕ
  pub file : Option (List ℕ)

-- what a path holds after what is done at one
abbrev pub file_then : Files → Option Edit → List ℕ → Option (List ℕ)
file_then tree None path = get tree path
file_then tree (Some edit) path = if bytes_eq path edit.path then edit.file else get tree path

-- a file is made
abbrev pub made : List ℕ → List ℕ → Edit
made path bytes = record { path = path; removed = []; written = bytes; file = Some bytes }

-- a file is removed
abbrev pub dropped : List ℕ → List ℕ → Edit
dropped path bytes = record { path = path; removed = bytes; written = []; file = None }

-- bytes come behind those of a file
abbrev pub appended : List ℕ → List ℕ → List ℕ → Edit
appended path bytes more = record { path = path; removed = []; written = more; file = Some (bytes ++ more) }

-- a text gives way to another one, in these bytes, which differ
abbrev pub exchanged : List ℕ → List ℕ → List ℕ → Difference → Edit
exchanged path old new differing = record {
  path = path;
  removed = take differing.old_len (drop differing.at old);
  written = take differing.new_len (drop differing.at new);
  file = Some new;
}

-- where the two differ
abbrev pub edit_between : List ℕ → List ℕ → List ℕ → Option Edit
edit_between path old new =
    if bytes_eq new old then None else Some (exchanged path old new (difference_of old new))

-- a file of these bytes gives way to a text, or goes where none is left
abbrev pub edit_to : List ℕ → List ℕ → Option (List ℕ) → Option Edit
edit_to path bytes None = Some (dropped path bytes)
edit_to path bytes (Some made) = edit_between path bytes made
