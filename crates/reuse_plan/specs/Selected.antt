-- The paths that a command goes through: those that it is given, and, in place of folders, the files beneath them that
-- it is asked for (the reuse tool's manual page of `annotate`, `--recursive`; the order: docs/RULES.md).
use Rattle.std.specs.Prelude.{ℕ, Bool, not, ◌&&◌, List, [], ◌∷◌, filter, flat_map, if◌then◌else◌}
use Rattle.std.specs.FinMap.{keys}
use Rattle.reuse_notice.specs.Sets.{set_of}
use Rattle.reuse_change.specs.Path.{lies_under}
use Rattle.reuse_change.specs.Files.{Files}
use Rattle.reuse_command.specs.Choice.{is_listed, matches_one}
use Rattle.reuse_command.specs.Command.{paths_among}
use Rattle.reuse_command.specs.Covered.{is_covered}
use Rattle.reuse_edit.specs.Tables.{is_amendable}
use Rattle.reuse_change.specs.Listing.{is_folder}
use Rattle.reuse_command.specs.declared.command.Place.{Place}
use Rattle.reuse_command.specs.declared.command.Place.TheVariants.{Root, Path}
use Rattle.reuse_command.specs.declared.command.Scope.{Scope}

-- the file is chosen where it stands beneath a folder: the command works on its path, it is listed, where there is a
-- list, and no glob that is excluded matches it or a folder above it
abbrev pub is_chosen : (List ℕ → Bool) → Scope → List ℕ → Bool
is_chosen works_on scope path = works_on path && is_listed scope.listed path && not (matches_one scope.excluded path)

-- what stands in the place of a folder: the files beneath it that are chosen; a file stands for itself
abbrev pub expanded : (List ℕ → Bool) → Files → Place → List (List ℕ)
expanded chooses tree Root = filter chooses (keys tree)
expanded chooses tree (Path path) = if is_folder tree path
    then filter chooses (filter (λ other. lies_under other path) (keys tree)) else path ∷ []

-- in byte order, without repeats; folders are gone through where that is asked for
abbrev pub paths_for : (List ℕ → Bool) → Scope → List Place → Files → List (List ℕ)
paths_for works_on scope places tree = set_of (if scope.recursive
    then flat_map (expanded (is_chosen works_on scope) tree) places else paths_among places)

-- the paths that annotate goes through: beneath folders those of covered files
abbrev pub selected_paths : Scope → List Place → Files → List (List ℕ)
selected_paths scope places tree = paths_for is_covered scope places tree

-- the paths that amend goes through: beneath folders those of covered files and of tables
abbrev pub amended_paths : Scope → List Place → Files → List (List ℕ)
amended_paths scope places tree = paths_for is_amendable scope places tree
