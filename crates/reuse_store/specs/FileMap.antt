-- The files of a map.
use Rattle.std.specs.Prelude.{List, ℕ, Option, Some, None, IsSome, is_some}
use Rattle.std.specs.Ordering.{nat_cmp}
use Rattle.std.specs.Cmp.Lexicographic.{slice_cmp}
use Rattle.std.specs.FinMap.{empty, get, get-empty, from_entries}
use Rattle.std.proofs.Common.{sym, ap, ◌∙◌}
use Rattle.std.proofs.lemmas.Bool.{false≢true}
use Rattle.reuse_change.specs.Files.{Files, AreFiles}
use Rattle.reuse_store.specs.declared.file_map.FileMap.{FileMap}

-- the files that a map stands for
abbrev pub files_of : FileMap → Files
files_of files = from_entries {R = slice_cmp nat_cmp} files.contents.entries

-- those of a map that may not be there yet
abbrev pub files_in : Option FileMap → Files
files_in None = empty
files_in (Some files) = files_of files

nothing_there : (path : List ℕ) → IsSome (get (files_in None) path) → ⊥
nothing_there path h = false≢true (ap is_some (sym (get-empty (slice_cmp nat_cmp) path)) ∙ h)

pub none_are_files : AreFiles (files_in None)
none_are_files = record {
  are_paths = λ path h. absurd (nothing_there path h);
  apart = λ path h c. nothing_there path h;
}

-- they are good files
pub files_in_are_files : (files : Option FileMap) → AreFiles (files_in files)
files_in_are_files None = none_are_files
files_in_are_files (Some files) = files.are_files
