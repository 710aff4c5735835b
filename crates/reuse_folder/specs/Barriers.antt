-- Which folders are noted for the next barrier, where files are put and removed.
use Rattle.std.specs.Prelude.{◌≡◌, ◌⊎◌, ℕ, ◌<◌, List, length, slice_index_or}
use Rattle.reuse_store.specs.declared.file_write.FileWrite.{FileWrite}
use Rattle.reuse_system.specs.FileStates.{Place, place_in}
use Rattle.reuse_system.specs.NameChanges.{NameChange, OnlyChanges}
use Rattle.reuse_system.specs.declared.place.Identity.{Identity}
use Rattle.reuse_system.specs.declared.system.System.{Ghosts}
use Rattle.reuse_disk.specs.Noted.{IsNoted, StayNoted}
use Rattle.reuse_disk.specs.Synced.{IsAbove}
use Rattle.reuse_disk.specs.declared.syncs.Unsynced.{Unsynced}
use Rattle.reuse_folder.specs.Seen.{AreKnown, IsNewFile, LoseNoEdits}
use Rattle.reuse_folder.specs.declared.folder.batch.NewContent.{NewContent}
use Rattle.reuse_folder.specs.declared.folder.seen.ReadPath.{ReadPath}

-- the folder above the path is noted
abbrev pub IsNotedAbove : Unsynced → (path : List ℕ) → Type 0
IsNotedAbove unsynced path = IsAbove (IsNoted unsynced) path

-- so it is, and the place has the path's own name, in some folder
pub record IsNotedAt (unsynced : Unsynced) (path : List ℕ) (place : Place) : Type 0 where
  pub noted : IsNotedAbove unsynced path
  pub folder : Identity
  pub at : place ≡ place_in folder noted.name

-- each name that changed is one of new files, or the path's own, and then the folder above that is noted
abbrev pub HasNoted : Unsynced → List ℕ → (before after : List NameChange) → Type 0
HasNoted unsynced path before after =
    OnlyChanges (λ place. IsNewFile place ⊎ IsNotedAt unsynced path place) before after

-- so it is of one of the writes
pub record IsNotedOf (unsynced : Unsynced) (writes : List FileWrite) (place : Place) : Type 0 where
  pub number : ℕ
  pub write : FileWrite
  pub short : number < length writes
  pub is_one : write ≡ slice_index_or writes number write
  pub at : IsNotedAt unsynced write.path.now place

abbrev pub HaveNoted : Unsynced → List FileWrite → (before after : List NameChange) → Type 0
HaveNoted unsynced writes before after =
    OnlyChanges (λ place. IsNewFile place ⊎ IsNotedOf unsynced writes place) before after

-- the folders above the first so many of the writes are noted
abbrev pub AreNotedAbove : Unsynced → List FileWrite → ℕ → Type 0
AreNotedAbove unsynced writes count =
    (k : ℕ) (write : FileWrite) → k < count → write ≡ slice_index_or writes k write
    → IsNotedAbove unsynced write.path.now

-- New files were given their names, or some of them. Of what was known no edit is lost, and what was noted is noted
-- still, the folders above too.
pub record NamesKnown {S : Type 0} (system : Ghosts S) (old new : S) (unsynced notes : Unsynced)
    (writes : List FileWrite) (temp_files : List NewContent) : Type 0 where
  pub syncs : notes.syncs ≡ unsynced.syncs
  pub stays : StayNoted unsynced notes
  pub noted : (reads : List ReadPath) → AreKnown reads writes temp_files
      → AreNotedAbove unsynced writes (length temp_files)
      → HaveNoted notes writes (system.changes old) (system.changes new)
  pub keeps_edits : (reads : List ReadPath) → AreKnown reads writes temp_files
      → LoseNoEdits reads writes (system.changes old) (system.changes new)
  pub earlier : system.honest new → system.honest old
