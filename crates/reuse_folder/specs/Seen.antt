-- What was read of paths, what their writes expect there, and what the files that are written are to be.
use Rattle.std.specs.Prelude.{◌≡◌, ◌≢◌, ◌⊎◌, ℕ, ◌<◌, List, [], ◌∷◌, ◌++◌, length, Option, None, Some, IfSome}
use Rattle.reuse_system.specs.TempFiles.{IsNewPlace, place_of}
use Rattle.reuse_system.specs.FileStates.{FileState, Place, place_in}
use Rattle.reuse_system.specs.NameChanges.{NameChange, AreEach, IsExpected, IsGuarded}
use Rattle.reuse_system.specs.Names.{IsNameOf}
use Rattle.reuse_system.specs.NewFiles.{Due, IsAsDue}
use Rattle.reuse_system.specs.declared.place.FileStatus.{FileStatus}
use Rattle.reuse_system.specs.declared.place.Identity.{Identity}
use Rattle.reuse_system.specs.declared.system.new_status.NewStatus.{NewStatus}
use Rattle.reuse_store.specs.declared.file_write.FileWrite.{FileWrite}
use Rattle.reuse_folder.specs.declared.folder.seen.Expected.{Expected}
use Rattle.reuse_folder.specs.declared.folder.seen.Expected.TheVariants as expected
use Rattle.reuse_folder.specs.declared.folder.seen.ReadPath.{ReadPath}
use Rattle.reuse_folder.specs.declared.folder.batch.NewContent.{NewContent}

-- what is expected where this was read
abbrev pub expected_of : Option FileStatus → Expected
expected_of None = expected.Nothing
expected_of (Some status) = expected.File status

-- none of these reads was of the path
abbrev pub IsUnread : List ReadPath → List ℕ → Type 0
IsUnread [] path = Unit {0}
IsUnread (read ∷ reads) path = (read.path ≢ path) × IsUnread reads path

-- one of these reads reported this of the path
abbrev pub IsReportedBy : List ReadPath → List ℕ → Expected → Type 0
IsReportedBy [] path one = ⊥
IsReportedBy (read ∷ reads) path one =
    ((read.path ≡ path) × (one ≡ expected_of read.seen)) ⊎ IsReportedBy reads path one

-- so it was; or none was of the path, and nothing is expected of what is found there
abbrev pub IsSeenBefore : List ReadPath → List ℕ → Expected → Type 0
IsSeenBefore reads path expected.Found = IsUnread reads path
IsSeenBefore reads path one = IsReportedBy reads path one

-- a read of the path is among these
abbrev pub IsNoted : List ReadPath → List ℕ → Type 0
IsNoted reads path = (seen : Option FileStatus) × IsSeenBefore reads path (expected_of seen)

-- the path was read once more, and the reads before stay, unless these are too many
abbrev pub IsReadOnceMore : (before after : List ReadPath) → List ℕ → Type 0
IsReadOnceMore before after path =
    IsNoted after path
    × (length before < 1_024
    → (seen : Option FileStatus) × (after ≡ before ++ record { path = path; seen = seen } ∷ []))

-- what is to stand at the path directly before that changes is what is expected; what is found, if that is unknown
abbrev pub IsSeenAs : Expected → Option FileStatus → Type 0
IsSeenAs expected.Found seen = Unit {0}
IsSeenAs one seen = one ≡ expected_of seen

-- it is to belong to whom the file belongs that was seen
abbrev pub KeepsOwner : Due → Type 0
KeepsOwner due = IfSome due.seen (λ seen. due.owner ≡ seen.owner)

-- No edit is lost at the path: the names that changed are those of new files, in some folder or beside the path's own,
-- and the path's own name in some folder, if what was expected stood there directly before. A file that was given that
-- name has the bits and the owner of what stood there, as far as may be. Else the file of that name is the same before
-- and after.
pub record LosesNoEdit (path : List ℕ) (one : Expected) (before after : List NameChange)
    (old new : FileState) : Type 0 where
  pub new_files : Identity
  pub folder : Identity
  pub name : List ℕ
  pub is_named : IsNameOf path name
  pub due : Due
  pub is_seen : IsSeenAs one due.seen
  pub keeps : KeepsOwner due
  pub guarded : IsGuarded (IsNewPlace new_files folder) (place_in folder name) due before after old new

-- so it is for some expectation after these reads
abbrev pub LosesNoEditAfter : List ReadPath → (path : List ℕ) → (before after : List NameChange)
    → (old new : FileState) → Type 0
LosesNoEditAfter reads path before after old new =
    (one : Expected) × IsSeenBefore reads path one × LosesNoEdit path one before after old new

-- ---- of several writes

-- a name of new files
abbrev pub IsNewFile : Place → Type 0
IsNewFile place = (new_files folder : Identity) × IsNewPlace new_files folder place

-- the file was seen so, as the reads before report what is expected at the path
abbrev pub IsKnown : List ReadPath → List ℕ → Option FileStatus → Type 0
IsKnown reads path seen = (one : Expected) × IsSeenBefore reads path one × IsSeenAs one seen

-- the file is as it is to be in place of what was seen
pub record IsAsSeen (seen : Option FileStatus) (status : NewStatus) : Type 0 where
  pub due : Due
  pub is_seen : due.seen ≡ seen
  pub keeps : KeepsOwner due
  pub as_due : IsAsDue due status

-- the temporary file has a name of new files, what was seen is known of the path, and the file is as it is to be
abbrev pub IsKnownTempFile : List ReadPath → List ℕ → NewContent → Type 0
IsKnownTempFile reads path one =
    IsNewFile (place_of one.temp_file) × IsKnown reads path one.seen × IsAsSeen one.seen one.temp_file.status

-- so are these, of as many of the writes
abbrev pub AreKnown : List ReadPath → List FileWrite → List NewContent → Type 0
AreKnown reads writes [] = Unit {0}
AreKnown reads [] (one ∷ temp_files) = ⊥
AreKnown reads (write ∷ writes) (one ∷ temp_files) =
    IsKnownTempFile reads write.path.now one × AreKnown reads writes temp_files

-- the path's own name in some folder changed, at which stood directly before what was seen; a file that was given it is
-- as it is to be
pub record IsChangeAt (reads : List ReadPath) (path : List ℕ) (change : NameChange) : Type 0 where
  pub folder : Identity
  pub name : List ℕ
  pub is_named : IsNameOf path name
  pub at : change.place ≡ place_in folder name
  pub due : Due
  pub is_known : IsKnown reads path due.seen
  pub keeps : KeepsOwner due
  pub is_expected : IsExpected due.seen change.reported
  pub is_given : IfSome change.given (IsAsDue due)

-- so did that of one of the writes
abbrev pub IsChangeOfSome : List ReadPath → List FileWrite → NameChange → Type 0
IsChangeOfSome reads [] change = ⊥
IsChangeOfSome reads (write ∷ writes) change =
    IsChangeAt reads write.path.now change ⊎ IsChangeOfSome reads writes change

-- No edit is lost at the paths of the writes: the names that changed are those of new files, and those of the paths at
-- which stood directly before what was expected.
pub record LoseNoEdits (reads : List ReadPath) (writes : List FileWrite) (before after : List NameChange) : Type 0 where
  pub changes : List NameChange
  pub grown : after ≡ changes ++ before
  pub each : AreEach (λ change. IsNewFile change.place ⊎ IsChangeOfSome reads writes change) changes
