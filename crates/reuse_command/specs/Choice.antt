-- Which of the files beneath folders a command is asked for (this project's own; the globs: REUSE Specification 3.3,
-- "REUSE.toml").
use Rattle.std.specs.Prelude.{ℕ, Bool, true, false, not, ◌&&◌, ◌||◌, List, ◌∷◌, Option, Some, None}
use Rattle.std.specs.List.{list_any}
use Rattle.std.specs.Str.{chars}
use Rattle.reuse_toml.specs.declared.glob.GlobPiece.{GlobPiece}
use Rattle.reuse_toml.specs.GlobMatch.{matches_glob}
use Rattle.reuse_command.specs.Covered.{is_covered}
use Rattle.reuse_change.specs.Listing.{is_among, is_folder_of}
use Rattle.reuse_change.specs.Path.{folders_above}
use Rattle.reuse_command.specs.declared.command.Scope.{Scope}

-- the path is listed, where there is a list
abbrev pub is_listed : Option (List (List ℕ)) → List ℕ → Bool
is_listed None path = true
is_listed (Some paths) path = is_among paths path

-- no path of the list, where there is one, lies under the folder
abbrev pub lists_none : Option (List (List ℕ)) → List ℕ → Bool
lists_none None folder = false
lists_none (Some paths) folder = not (is_folder_of paths folder)

-- one of the globs matches that of the folder itself
abbrev pub matches_folder : List (List GlobPiece) → List ℕ → Bool
matches_folder globs folder = list_any (λ glob. matches_glob glob (chars folder)) globs

-- a listing passes over the folder: no file beneath it is asked for, by the list or by a glob, and no path that is
-- given lies under it
abbrev pub is_passed_over : Scope → List (List ℕ) → List ℕ → Bool
is_passed_over scope given folder =
    (lists_none scope.listed folder || matches_folder scope.excluded folder) && not (is_folder_of given folder)

-- the glob matches the path, or that of a folder above it, by its characters
abbrev pub leaves_out : List GlobPiece → List ℕ → Bool
leaves_out glob path = list_any (λ place. matches_glob glob (chars place)) (path ∷ folders_above path)

-- one of the globs does
abbrev pub matches_one : List (List GlobPiece) → List ℕ → Bool
matches_one globs path = list_any (λ glob. leaves_out glob path) globs

-- the file is selected where it stands beneath a folder: it is covered, it is listed, where there is a list, and no
-- glob that is excluded matches it or a folder above it
abbrev pub is_chosen : Scope → List ℕ → Bool
is_chosen scope path = is_covered path && is_listed scope.listed path && not (matches_one scope.excluded path)
