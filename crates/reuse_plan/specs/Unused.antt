-- What of a command's choice of the files beneath folders came to nothing: globs that left nothing out, and listed
-- paths that are no file beneath a place on which the command works.
use Rattle.std.specs.Prelude.{◌≡◌, ℕ, Bool, true, false, not, ◌&&◌, List, [], filter, length, map, Option, Some, None}
use Rattle.std.specs.Prelude.{Result, Ok, Err}
use Rattle.std.specs.List.{list_any}
use Rattle.reuse_toml.specs.declared.glob.GlobPiece.{GlobPiece}
use Rattle.reuse_notice.specs.Sets.{set_of}
use Rattle.reuse_change.specs.Files.{Files}
use Rattle.reuse_change.specs.Listing.{is_among, listed_paths}
use Rattle.reuse_command.specs.Choice.{is_listed, is_passed_over, leaves_out, matches_one}
use Rattle.reuse_command.specs.Command.{paths_among}
use Rattle.reuse_command.specs.Covered.{is_covered}
use Rattle.reuse_plan.specs.Shown.{folders_for}
use Rattle.reuse_plan.specs.TreeStyles.{styles_in}
use Rattle.reuse_style.specs.Kinds.{OwnKinds}
use Rattle.reuse_plan.specs.Selected.{paths_for}
use Rattle.reuse_edit.specs.Tables.{is_amendable}
use Rattle.reuse_command.specs.declared.command.Command.{Command}
use Rattle.reuse_command.specs.declared.command.Command.TheVariants.{Annotate, Amend}
use Rattle.reuse_command.specs.declared.command.Place.{Place}
use Rattle.reuse_command.specs.declared.command.Scope.{Scope}
use Rattle.reuse_command.specs.declared.reply.Refusal.{Refusal}
use Rattle.reuse_plan.specs.declared.unused.Unused.{Unused}

-- ---- by what was found, and what of it is selected

-- the glob left the file out: it matches a file that is listed, on which the command works, and which isn't selected
abbrev pub is_left_out_by : (List ℕ → Bool) → Scope → List (List ℕ) → List GlobPiece → List ℕ → Bool
is_left_out_by works_on scope selected glob path =
    leaves_out glob path && works_on path && is_listed scope.listed path && not (is_among selected path)

-- it left none of the files out that were found
abbrev pub leaves_none_out : (List ℕ → Bool) → Scope → List (List ℕ) → List (List ℕ) → List GlobPiece → Bool
leaves_none_out works_on scope selected found glob = not (list_any (is_left_out_by works_on scope selected glob) found)

-- the path isn't selected, and no glob leaves it out
abbrev pub is_unmet : Scope → List (List ℕ) → List ℕ → Bool
is_unmet scope selected path = not (is_among selected path) && not (matches_one scope.excluded path)

-- how many of the list are not
abbrev pub unmet_count : Scope → List (List ℕ) → Option (List (List ℕ)) → ℕ
unmet_count scope selected None = 0
unmet_count scope selected (Some names) = length (filter (is_unmet scope selected) names)

pub record AreUnused (works_on : List ℕ → Bool) (scope : Scope) (selected found : List (List ℕ))
    (unused : Unused) : Type 0 where
  pub names : unused.names ≡ unmet_count scope selected scope.listed
  pub globs : unused.globs.items ≡ map (leaves_none_out works_on scope selected found) scope.excluded

-- ---- on a tree

-- what is found for the places: what is beneath them, but for folders that are passed over
abbrev pub found_paths : Scope → List Place → Files → List (List ℕ)
found_paths scope places tree = listed_paths tree (folders_for places (set_of (paths_among places)))
    (is_passed_over scope (set_of (paths_among places)))

-- where folders are gone through
abbrev pub AreUnusedWhere : Bool → (List ℕ → Bool) → Scope → List Place → Files → Unused → Type 0
AreUnusedWhere true works_on scope places tree unused =
    AreUnused works_on scope (paths_for works_on scope places tree) (found_paths scope places tree) unused
AreUnusedWhere false works_on scope places tree unused = (unused.names ≡ 0) × (unused.globs.items ≡ [])

abbrev pub AreUnusedAt : (List ℕ → Bool) → Scope → List Place → Files → Unused → Type 0
AreUnusedAt works_on scope places tree unused = AreUnusedWhere scope.recursive works_on scope places tree unused

-- where the styles of the tree can be read
abbrev pub AreUnusedIf : Result OwnKinds Refusal → (List ℕ → Bool) → Scope → List Place → Files → Unused → Type 0
AreUnusedIf (Ok own) works_on scope places tree unused = AreUnusedAt works_on scope places tree unused
AreUnusedIf (Err refusal) works_on scope places tree unused = Unit {0}

-- by a command that chooses files
abbrev pub AreUnusedBy : Command → Files → Unused → Type 0
AreUnusedBy (Annotate places additions how scope) tree unused =
    AreUnusedIf (styles_in tree) is_covered scope places tree unused
AreUnusedBy (Amend places amendment scope) tree unused =
    AreUnusedIf (styles_in tree) is_amendable scope places tree unused
AreUnusedBy command tree unused = Unit {0}
