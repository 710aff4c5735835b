-- The paths that a command goes through, in other words: which files they are, without the order in which they are
-- found.
use Rattle.std.specs.Prelude.{◌≡◌, ◌⊎◌, ℕ, true, false, List, Option, Some, None}
use Rattle.std.specs.List.{All, Contains}
use Rattle.std.specs.Str.{chars}
use Rattle.std.specs.FinMap.{keys}
use Rattle.reuse_toml.specs.declared.glob.GlobPiece.{GlobPiece}
use Rattle.reuse_toml.specs.GlobMatch.{GlobMatches}
use Rattle.reuse_change.specs.Path.{lies_under}
use Rattle.reuse_change.specs.Files.{Files}
use Rattle.reuse_command.specs.Command.{has_root, paths_among}
use Rattle.reuse_edit.specs.Tables.{is_table}
use Rattle.reuse_command.specs.Covered.{is_covered}
use Rattle.reuse_change.specs.Listing.{is_folder}
use Rattle.reuse_command.specs.declared.command.Place.{Place}
use Rattle.reuse_command.specs.declared.command.Scope.{Scope}

-- the path is given, and is no folder of the tree
abbrev pub IsNamed : List Place → Files → List ℕ → Type 0
IsNamed places tree path = Contains (paths_among places) path × (is_folder tree path ≡ false)

-- a file of the tree that the root, or a folder that is given, has beneath it
abbrev pub StandsBeneath : List Place → Files → List ℕ → Type 0
StandsBeneath places tree path =
    Contains (keys tree) path
    × ((has_root places ≡ true)
    ⊎ ((folder : List ℕ) × Contains (paths_among places) folder × (lies_under path folder ≡ true)))

-- one of the paths that are listed, where there is a list
abbrev pub IsListed : Option (List (List ℕ)) → List ℕ → Type 0
IsListed None path = Unit {0}
IsListed (Some paths) path = Contains paths path

-- the glob matches neither the path nor that of a folder above it
abbrev pub LeavesIn : List GlobPiece → List ℕ → Type 0
LeavesIn glob path = ¬ GlobMatches glob (chars path)
    × ((folder : List ℕ) → lies_under path folder ≡ true → ¬ GlobMatches glob (chars folder))

-- no glob leaves the path out
abbrev pub MatchesNone : List (List GlobPiece) → List ℕ → Type 0
MatchesNone globs path = All (λ glob. LeavesIn glob path) globs

-- covered, listed and not excluded
abbrev pub IsAskedFor : Scope → List ℕ → Type 0
IsAskedFor scope path = (is_covered path ≡ true) × IsListed scope.listed path × MatchesNone scope.excluded path

-- covered or a table, listed and not excluded
abbrev pub IsAskedToAmend : Scope → List ℕ → Type 0
IsAskedToAmend scope path =
    ((is_covered path ≡ true) ⊎ (is_table path ≡ true)) × IsListed scope.listed path × MatchesNone scope.excluded path
