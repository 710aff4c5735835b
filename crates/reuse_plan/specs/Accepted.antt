-- Where a command isn't refused, in other words.
use Rattle.std.specs.Prelude.{◌≡◌, ◌⊎◌, ℕ, ◌<◌, ◌≤◌, true, List, [], length, Some, None, Ok, IsOk, IsSome, unwrap_or}
use Rattle.std.specs.List.{Contains}
use Rattle.std.specs.FinMap.{get}
use Rattle.reuse_change.specs.declared.layout.TheConstants.{LARGEST_ENTRY, MOST_CHANGES}
use Rattle.reuse_text.specs.declared.TheConstants.{LONGEST_FILE}
use Rattle.reuse_command.specs.declared.command.HeaderAdditions.{HeaderAdditions}
use Rattle.reuse_amend.specs.declared.amendments.Amendments.{Amendments}
use Rattle.reuse_header.specs.Amendment.{amended_file, amendment_of, neighbour_amendment_of}
use Rattle.reuse_header.specs.Neighbour.{is_text}
use Rattle.reuse_tags.specs.Everywhere.{amended_everywhere}
use Rattle.reuse_header.specs.declared.annotation.How.{How}
use Rattle.reuse_style.specs.Kinds.{OwnKinds, kind_unread}
use Rattle.reuse_style.specs.declared.style.Style.{Style}
use Rattle.reuse_style.specs.declared.style.Kind.{Kind}
use Rattle.reuse_style.specs.declared.style.Kind.TheVariants as kind
use Rattle.reuse_dep5.specs.Conversion.{converted}
use Rattle.reuse_toml.specs.TomlAmending.{toml_amendment_of}
use Rattle.reuse_change.specs.Files.{Files, Clashes}
use Rattle.reuse_edit.specs.Annotation.{annotated, neighbour_annotated}
use Rattle.reuse_edit.specs.Amend.{amended_table}
use Rattle.reuse_edit.specs.Removed.{removal_of, text_left, neighbour_removal_of, neighbour_left}
use Rattle.reuse_edit.specs.Annotate.{neighbour_of}
use Rattle.reuse_plan.specs.Annotated.{Pair, pair_at, IsSkipped, IsStyleOf, TakesComment, TakesNeighbour}
use Rattle.reuse_command.specs.Command.{has_root, values_of}
use Rattle.reuse_plan.specs.Conversion.{dep5_path}
use Rattle.reuse_edit.specs.Tables.{toml_path, is_table}
use Rattle.reuse_command.specs.Covered.{is_covered}
use Rattle.reuse_edit.specs.Licence.{text_for, is_id, licence_path}
use Rattle.reuse_plan.specs.Outcome.{edit_count, edits_of, recorded_size}
use Rattle.reuse_plan.specs.TreeStyles.{styles_in}
use Rattle.reuse_plan.specs.Selected.{amended_paths, selected_paths}
use Rattle.reuse_command.specs.declared.command.Command.{Command}
use Rattle.reuse_command.specs.declared.command.Command.TheVariants.{Amend, Annotate, ConvertDep5, Download}
use Rattle.reuse_command.specs.declared.command.FileAmendment.{FileAmendment}
use Rattle.reuse_command.specs.declared.command.FileAmendment.TheVariants.{InHeader, Everywhere, Remove}
use Rattle.reuse_command.specs.declared.command.HeaderRemoval.{HeaderRemoval}
use Rattle.reuse_command.specs.declared.command.Place.{Place}
use Rattle.reuse_command.specs.declared.command.Scope.{Scope}
use Rattle.reuse_command.specs.declared.licence.LicenceText.{LicenceText}

-- one entry holds what the command changes: at most 100,000 files, and 256 MiB by what they count for
abbrev pub FitsEntry : Command → Files → Type 0
FitsEntry command tree =
    (edit_count (edits_of command tree) ≤ MOST_CHANGES) × (recorded_size (edits_of command tree) ≤ LARGEST_ENTRY)

-- ---- downloads

-- the id is one, a text that isn't too long is found for it, and its path has no file and doesn't clash
pub record CanBeDownloaded (texts : List LicenceText) (tree : Files) (id : List ℕ) : Type 0 where
  pub good : is_id id ≡ true
  pub text : List ℕ
  pub found : text_for texts id ≡ Some text
  pub short : length text ≤ LONGEST_FILE
  pub absent : get tree (licence_path id) ≡ None
  pub free : ¬ (Clashes tree (licence_path id))

-- each text can be downloaded, and one entry holds them all
pub record CanDownload (ids : List (List ℕ)) (texts : List LicenceText) (tree : Files) : Type 0 where
  pub each : (id : List ℕ) → Contains ids id → CanBeDownloaded texts tree id
  pub fits : FitsEntry (Download ids texts) tree

-- ---- conversions

-- there is a `.reuse/dep5` that isn't too long and is converted, `REUSE.toml` isn't there and doesn't clash, and one
-- entry holds both
pub record CanConvert (tree : Files) : Type 0 where
  pub dep5 : List ℕ
  pub there : get tree dep5_path ≡ Some dep5
  pub short : length dep5 ≤ LONGEST_FILE
  pub good : IsOk (converted dep5)
  pub absent : get tree toml_path ≡ None
  pub free : ¬ (Clashes tree toml_path)
  pub fits : FitsEntry ConvertDep5 tree

-- ---- annotations

-- no style is asked for, and the file has this kind whatever it holds
abbrev pub HasKindUnread : Scope → OwnKinds → List ℕ → Kind → Type 0
HasKindUnread scope own path of_file = (scope.style ≡ None) × (kind_unread own path ≡ Some of_file)

-- the file needn't be read: a neighbour is there or asked for, or the file takes no comment whatever it holds
abbrev pub IsUnread : Scope → OwnKinds → List ℕ → Pair → Type 0
IsUnread scope own path pair =
    IsSome pair.neighbour ⊎ (scope.force_dot_license ≡ true) ⊎ HasKindUnread scope own path kind.Uncommentable

-- the neighbour's path isn't too long, nor is the neighbour; where it isn't there its path doesn't clash
pub record HasRoomForNeighbour (tree : Files) (path : List ℕ) : Type 0 where
  pub short_path : length (neighbour_of path) ≤ 4096
  pub short : (beside : List ℕ) → get tree (neighbour_of path) ≡ Some beside → length beside ≤ LONGEST_FILE
  pub free : get tree (neighbour_of path) ≡ None → ¬ (Clashes tree (neighbour_of path))

-- the file is skipped, or the header rules accept its bytes in its style, or those of its neighbour
abbrev pub RulesAccept : HeaderAdditions → How → Scope → OwnKinds → List ℕ → List ℕ → Pair → Type 0
RulesAccept additions how scope own path bytes pair =
    IsSkipped scope own path bytes pair
    ⊎ ((style : Style) × TakesComment scope own path bytes pair style × IsOk (annotated style how additions bytes))
    ⊎ (TakesNeighbour scope own path bytes pair
    × IsOk (neighbour_annotated how additions (unwrap_or pair.neighbour [])))

-- the path has a covered file, which isn't too long where it is read, room beside it where its neighbour takes the
-- information, and what the rules accept
pub record CanBeAnnotated (additions : HeaderAdditions) (how : How) (scope : Scope) (own : OwnKinds) (tree : Files)
    (path : List ℕ) : Type 0 where
  pub bytes : List ℕ
  pub there : get tree path ≡ Some bytes
  pub covered : is_covered path ≡ true
  pub short : ¬ (IsUnread scope own path (pair_at tree path)) → length bytes ≤ LONGEST_FILE
  pub room : TakesNeighbour scope own path bytes (pair_at tree path) → HasRoomForNeighbour tree path
  pub accepted : RulesAccept additions how scope own path bytes (pair_at tree path)

-- the tree's own styles are good, the root is given only where folders are gone through, each path that is gone through
-- can be annotated, and one entry holds them all
pub record CanAnnotate (places : List Place) (additions : HeaderAdditions) (how : How) (scope : Scope)
    (tree : Files) : Type 0 where
  pub own : OwnKinds
  pub styles : styles_in tree ≡ Ok own
  pub root : has_root places ≡ true → scope.recursive ≡ true
  pub each : (path : List ℕ) → Contains (selected_paths scope places tree) path
      → CanBeAnnotated additions how scope own tree path
  pub fits : FitsEntry (Annotate places additions how scope) tree

-- ---- amendments

-- the rules accept each tag of a text, and make none of it that is too long
abbrev pub CanTextBeAmended : Amendments → List ℕ → Type 0
CanTextBeAmended values bytes =
    (made : List ℕ) × (amended_everywhere values bytes ≡ Some made) × (length made ≤ LONGEST_FILE)

-- the rules accept the values, and then what is taken out of the text that they make
abbrev pub CanBlockBeLeft : Amendments → HeaderRemoval → Style → List ℕ → Type 0
CanBlockBeLeft values removal style bytes =
    (amended : List ℕ) × (amended_file bytes (amendment_of style values bytes) ≡ Ok amended)
    × IsOk (text_left amended (removal_of removal style amended))

abbrev pub CanNeighbourBeLeft : Amendments → HeaderRemoval → List ℕ → Type 0
CanNeighbourBeLeft values removal beside =
    (amended : List ℕ) × (amended_file beside (neighbour_amendment_of values beside) ≡ Ok amended)
    × IsOk (neighbour_left amended (neighbour_removal_of removal amended))

-- the rules accept what a neighbour says; or it is text, and they accept each tag of it
abbrev pub IsNeighbourAccepted : FileAmendment → List ℕ → Type 0
IsNeighbourAccepted (InHeader values) beside = IsOk (amended_file beside (neighbour_amendment_of values beside))
IsNeighbourAccepted (Remove values removal) beside = CanNeighbourBeLeft values removal beside
IsNeighbourAccepted (Everywhere values) beside = (is_text beside ≡ true) × CanTextBeAmended values beside

-- the path of the neighbour isn't too long, nor is the neighbour, and the rules accept its bytes
pub record CanNeighbourBeAmended (amendment : FileAmendment) (path beside : List ℕ) : Type 0 where
  pub short_path : length (neighbour_of path) ≤ 4096
  pub short : length beside ≤ LONGEST_FILE
  pub accepted : IsNeighbourAccepted amendment beside

-- the file has no style whatever it holds
abbrev pub HasNoStyleUnread : Scope → OwnKinds → List ℕ → Type 0
HasNoStyleUnread scope own path =
    HasKindUnread scope own path kind.Uncommentable ⊎ HasKindUnread scope own path kind.Unknown

-- so it is where a header block is looked for, and where the file is too long
abbrev pub IsPassedOver : FileAmendment → Scope → OwnKinds → List ℕ → List ℕ → Type 0
IsPassedOver (InHeader values) scope own path bytes = HasNoStyleUnread scope own path
IsPassedOver (Remove values removal) scope own path bytes = HasNoStyleUnread scope own path
IsPassedOver (Everywhere values) scope own path bytes =
    (LONGEST_FILE < length bytes) × HasNoStyleUnread scope own path

-- the rules accept a text in its style, where it has one; or they accept each tag of it
abbrev pub IsTextAccepted : FileAmendment → Scope → OwnKinds → List ℕ → List ℕ → Type 0
IsTextAccepted (InHeader values) scope own path bytes =
    (style : Style) → IsStyleOf scope own path bytes style → IsOk (amended_file bytes (amendment_of style values bytes))
IsTextAccepted (Remove values removal) scope own path bytes =
    (style : Style) → IsStyleOf scope own path bytes style → CanBlockBeLeft values removal style bytes
IsTextAccepted (Everywhere values) scope own path bytes = CanTextBeAmended values bytes

-- the file isn't too long, and the rules accept its bytes where they are text
pub record CanFileBeAmended (amendment : FileAmendment) (scope : Scope) (own : OwnKinds)
    (path bytes : List ℕ) : Type 0 where
  pub short : length bytes ≤ LONGEST_FILE
  pub accepted : is_text bytes ≡ true → IsTextAccepted amendment scope own path bytes

-- the path has a covered file; its neighbour can be amended where that is there, else the file itself where that isn't
-- passed over
pub record CanCoveredBeAmended (amendment : FileAmendment) (scope : Scope) (own : OwnKinds) (tree : Files)
    (path : List ℕ) : Type 0 where
  pub bytes : List ℕ
  pub there : get tree path ≡ Some bytes
  pub covered : is_covered path ≡ true
  pub by_neighbour : (beside : List ℕ) → get tree (neighbour_of path) ≡ Some beside
      → CanNeighbourBeAmended amendment path beside
  pub by_file : get tree (neighbour_of path) ≡ None → ¬ (IsPassedOver amendment scope own path bytes)
      → CanFileBeAmended amendment scope own path bytes

-- the path has a table, which isn't too long, and the rules accept its bytes
pub record CanTableBeAmended (amendments : Amendments) (tree : Files) (path : List ℕ) : Type 0 where
  pub bytes : List ℕ
  pub there : get tree path ≡ Some bytes
  pub table : is_table path ≡ true
  pub short : length bytes ≤ LONGEST_FILE
  pub accepted : IsOk (amended_table bytes (toml_amendment_of amendments bytes))

-- the path has a table that can be amended, or a covered file that can be
abbrev pub CanBeAmended : FileAmendment → Scope → OwnKinds → Files → List ℕ → Type 0
CanBeAmended amendment scope own tree path =
    CanTableBeAmended (values_of amendment) tree path ⊎ CanCoveredBeAmended amendment scope own tree path

-- the tree's own styles are good, the root is given only where folders are gone through, each path that is gone through
-- can be amended, and one entry holds them all
pub record CanAmend (places : List Place) (amendment : FileAmendment) (scope : Scope) (tree : Files) : Type 0 where
  pub own : OwnKinds
  pub styles : styles_in tree ≡ Ok own
  pub root : has_root places ≡ true → scope.recursive ≡ true
  pub each : (path : List ℕ) → Contains (amended_paths scope places tree) path
      → CanBeAmended amendment scope own tree path
  pub fits : FitsEntry (Amend places amendment scope) tree
