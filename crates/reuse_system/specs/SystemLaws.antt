-- What each call of the system makes of the files that names lead to, and what it reports of them.
use Rattle.std.specs.Prelude.{◌≡◌, ◌≢◌, ◌⊎◌, ℕ, Bool, true, false, IsTrue, List, [], ◌++◌, length, Option, None, Some}
use Rattle.std.specs.Prelude.{Result, Ok, Err}
use Rattle.reuse_store.specs.declared.store.Reading.{Reading}
use Rattle.reuse_system.specs.FileStates.{FileKey, StateFile, Place, FileState, file, IsNot}
use Rattle.reuse_system.specs.Folders.{Folders, folder_in, IsAlikeFoldersBut, IsBare, IsGrown}
use Rattle.reuse_system.specs.Readings.{IsReadingOf}
use Rattle.reuse_system.specs.declared.fault.FolderFault.{FolderFault}
use Rattle.reuse_system.specs.declared.place.Found.{Found}
use Rattle.reuse_system.specs.declared.handle.Below.{Below}
use Rattle.reuse_system.specs.declared.handle.Below.TheVariants as below
use Rattle.reuse_system.specs.declared.place.Found.TheVariants as found
use Rattle.reuse_system.specs.declared.place.Identity.{Identity}

-- nothing differs
abbrev pub IsAlike : FileState → FileState → Type 0
IsAlike old new = (place : Place) → new place ≡ old place

-- nothing differs but at this place
abbrev pub IsAlikeBut : Place → FileState → FileState → Type 0
IsAlikeBut place old new = (other : Place) → other ≢ place → new other ≡ old other

-- nothing differs but at such places
abbrev pub IsAlikeUnless : (Place → Type 0) → FileState → FileState → Type 0
IsAlikeUnless Differs old new = (place : Place) → ¬ (Differs place) → new place ≡ old place

-- nothing differs but the file of this key, whatever names lead to it
abbrev pub IsAlikeButFile : FileKey → FileState → FileState → Type 0
IsAlikeButFile key old new = (place : Place) → IsNot key (old place) → new place ≡ old place

-- an empty file was made at the place, to which no name led before
pub record IsMade (place : Place) (key : FileKey) (old new : FileState) : Type 0 where
  pub here : new place ≡ file key [] false
  pub fresh : (other : Place) → IsNot key (old other)
  pub others : IsAlikeBut place old new

-- the file got these bytes at its end, and a loss of power surely leaves it what it has now, or not
pub record IsFilled (key : FileKey) (bytes : List ℕ) (is_durable : Bool) (old new : FileState) : Type 0 where
  pub here : (place : Place) (had : List ℕ) (was_durable : Bool) → old place ≡ file key had was_durable
      → new place ≡ file key (had ++ bytes) is_durable
  pub others : IsAlikeButFile key old new

abbrev pub IsAppended : FileKey → List ℕ → FileState → FileState → Type 0
IsAppended key bytes old new = IsFilled key bytes false old new

-- a loss of power leaves the file its bytes
pub record IsSynced (key : FileKey) (old new : FileState) : Type 0 where
  pub here : (place : Place) (had : List ℕ) (is_durable : Bool) → old place ≡ file key had is_durable
      → new place ≡ file key had true
  pub others : IsAlikeButFile key old new

-- what stood at one place stands at the other now; where both led to one file, it stands at both
pub record IsRenamed (from to : Place) (old new : FileState) : Type 0 where
  pub there : new to ≡ old from
  pub others : (place : Place) → place ≢ from → place ≢ to → new place ≡ old place

-- both are the same file
abbrev pub IsOneFile : Option StateFile → Option StateFile → Type 0
IsOneFile (Some one) (Some other) = one.key ≡ other.key
IsOneFile one None = ⊥
IsOneFile None (Some other) = ⊥

-- The old name leads to no file now; or the new one is the same name, or led to the same file: then both are left.
abbrev pub IsLeft : Place → Place → FileState → FileState → Type 0
IsLeft from to old new = (new from ≡ None) ⊎ ((new from ≡ old from) × ((from ≡ to) ⊎ IsOneFile (old from) (old to)))

-- no file stands at the place now
pub record IsRemoved (place : Place) (old new : FileState) : Type 0 where
  pub gone : new place ≡ None
  pub others : IsAlikeBut place old new

-- a renaming that failed was made or not
abbrev pub MayBeRenamed : Place → Place → FileState → FileState → Type 0
MayBeRenamed from to old new = IsAlike old new ⊎ IsRenamed from to old new

-- if a folder was made, one stands at the place; made or not, nothing else differs, and one that stood there stays
pub record IsFolderMade (place : Place) (old new : Folders) (is_done : Bool) : Type 0 where
  pub done : IsTrue is_done → new.below place ≢ None
  pub grown : IsGrown old new
  pub others : IsAlikeFoldersBut place old new

-- if the folder was removed, none stands at the place; removed or not, nothing else differs
pub record IsFolderRemoved (place : Place) (old new : Folders) (is_done : Bool) : Type 0 where
  pub done : IsTrue is_done → new.below place ≡ None
  pub others : IsAlikeFoldersBut place old new

-- the file that stood at one place stands at another one too, which is not the same
pub record IsLinked (from to : Place) (old new : FileState) : Type 0 where
  pub apart : to ≢ from
  pub there : new to ≡ old from
  pub others : IsAlikeBut to old new

-- a linking that failed was made or not
abbrev pub MayBeLinked : Place → Place → FileState → FileState → Type 0
MayBeLinked from to old new = IsAlike old new ⊎ IsLinked from to old new

-- what a look may report of a name that leads to this file, or to none
abbrev pub IsSeen : Option StateFile → Result Found FolderFault → Type 0
IsSeen one (Ok (found.File status)) = (held : StateFile) × (one ≡ Some held) × (length held.bytes ≡ status.len)
IsSeen one (Ok found) = one ≡ None
IsSeen one (Err fault) = Unit {0}

-- what may be reported where a name leads to this folder, or to none, and no folder is opened: a bare repository of git
-- is reported as a link is
abbrev pub IsNoFolder : Folders → FileState → Option Identity → Found → Type 0
IsNoFolder folders held one found.Other = (one ≡ None) ⊎ IsBare folders held one
IsNoFolder folders held one found = one ≡ None

-- what opening the folder of this name in a folder may report
abbrev pub IsOpenedBelow : Folders → FileState → Identity → List ℕ → Result Below FolderFault → Type 0
IsOpenedBelow folders held above name (Ok (below.Folder folder)) = folder_in folders above name ≡ Some folder.identity
IsOpenedBelow folders held above name (Ok (below.Other found)) =
    IsNoFolder folders held (folder_in folders above name) found
IsOpenedBelow folders held above name (Err fault) = Unit {0}

-- what a reading may answer of it: what is read of a reader that has its bytes
abbrev pub IsReadOf : (said limit : ℕ) → Option StateFile → Result Reading FolderFault → Type 0
IsReadOf said limit one (Ok reading) =
    (held : StateFile) × (one ≡ Some held) × IsReadingOf said limit held.bytes reading
IsReadOf said limit one (Err fault) = Unit {0}
