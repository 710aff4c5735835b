-- New files that a stopped run has left beside those that they were to be.
use Rattle.std.specs.Prelude.{◌≡◌, ◌++◌, ℕ, List, IsTrue, None, Some}
use Rattle.reuse_change.specs.Layout.{journal_folder}
use Rattle.reuse_system.specs.TempFiles.{beside_name, is_elsewhere}
use Rattle.reuse_system.specs.FileStates.{FileState, Place, place_in}
use Rattle.reuse_system.specs.Folders.{Folders, folder_at}
use Rattle.reuse_system.specs.NameChanges.{NameChange, AreEach}
use Rattle.reuse_system.specs.SystemLaws.{IsAlikeUnless}
use Rattle.reuse_system.specs.declared.place.FileStatus.{FileStatus}
use Rattle.reuse_system.specs.declared.place.Found.TheVariants as found
use Rattle.reuse_system.specs.declared.place.Identity.{Identity}

-- this is the journal's folder, if the system is honest
abbrev pub IsJournalIf : Type 0 → Folders → Identity → Type 0
IsJournalIf IsHonest folders journal = IsHonest → folder_at folders journal_folder ≡ Some journal

-- the name that this journal's new files have in a folder below the root that lies on another device than the journal's
pub record IsLeft (IsHonest : Type 0) (folders : Folders) (place : Place) : Type 0 where
  pub journal : Identity
  pub is_journal : IsJournalIf IsHonest folders journal
  pub path : List ℕ
  pub folder : Identity
  pub is_below : IsHonest → folder_at folders path ≡ Some folder
  pub is_mounted : IsTrue (is_elsewhere journal folder)
  pub is_at : place ≡ place_in folder (beside_name journal)

-- such a name changed, and a look directly before reported that a regular file stood there
abbrev pub IsLeftFile : Type 0 → Folders → NameChange → Type 0
IsLeftFile IsHonest folders change =
    IsLeft IsHonest folders change.place × ((status : FileStatus) × (change.reported ≡ Some (found.File status)))

-- no name changed but such ones, and nothing differs but there
pub record ClearsLeft (IsHonest : Type 0) (folders : Folders) (before after : List NameChange)
    (old new : FileState) : Type 0 where
  pub changes : List NameChange
  pub grown : after ≡ changes ++ before
  pub each : AreEach (IsLeftFile IsHonest folders) changes
  pub others : IsAlikeUnless (IsLeft IsHonest folders) old new

-- no file has that name in the folder at this path, if it lies on another device
pub record IsClearedAt (folders : Folders) (held : FileState) (journal : Identity) (path : List ℕ) : Type 0 where
  pub folder : Identity
  pub is_folder : folder_at folders path ≡ Some folder
  pub gone : IsTrue (is_elsewhere journal folder) → held (place_in folder (beside_name journal)) ≡ None
