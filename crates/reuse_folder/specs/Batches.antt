-- Several writes: they make of the disk what single ones make of it, one after the other.
use Rattle.std.specs.Prelude.{◌≡◌, ◌≢◌, ℕ, Bool, true, false, IsTrue, List, [], ◌∷◌, length, take, drop, Option, None}
use Rattle.std.specs.Prelude.{Some, Result, Ok, Err}
use Rattle.reuse_change.specs.Parts.{joined}
use Rattle.reuse_change.specs.declared.parts.Pieces.{Pieces}
use Rattle.reuse_store.specs.declared.file_write.FileWrite.{FileWrite}
use Rattle.reuse_system.specs.declared.place.Identity.{Identity}
use Rattle.reuse_folder.specs.Disk.{Disk, IsSameTreeBut}
use Rattle.reuse_folder.specs.FolderWrites.{IsGone, IsPutIn, IsRemovedIn, IsTidy}
use Rattle.reuse_folder.specs.declared.folder.batch.Stop.{Stop}

-- the path was to hold these parts joined, or no file: what a single put, or a single removal, makes of the disk
abbrev pub IsWriteOn : (new_files : Identity) → (is_durable : Bool) → List ℕ → Option Pieces → Disk → Disk
    → (is_done : Bool) → Type 0
IsWriteOn new_files is_durable path None old new is_done =
    IsRemovedIn new.folders path old.files new.files × (IsTrue is_done → IsGone new.folders new.files path)
IsWriteOn new_files is_durable path (Some parts) old new is_done =
    IsPutIn new_files new.folders path (joined parts) is_durable old.files new.files is_done

-- so it is, and each other path leads to the file that it led to
abbrev pub IsWriteAt : (new_files : Identity) → (is_durable : Bool) → List ℕ → Option Pieces → Disk → Disk
    → (is_done : Bool) → Type 0
IsWriteAt new_files is_durable path file old new is_done =
    IsWriteOn new_files is_durable path file old new is_done × IsSameTreeBut path old new

-- each of these writes was made, one after the other
abbrev pub DisksAfter : (new_files : Identity) → (is_durable : Bool) → List FileWrite → Disk → Disk → Type 0
DisksAfter new_files is_durable [] old new = new ≡ old
DisksAfter new_files is_durable (write ∷ writes) old new =
    (mid : Disk) × IsWriteAt new_files is_durable write.path.now write.file old mid true
    × DisksAfter new_files is_durable writes mid new

-- the first of these writes was begun, and failed; if there is none, nothing differs
abbrev pub IsBegun : (new_files : Identity) → (is_durable : Bool) → List FileWrite → Disk → Disk → Type 0
IsBegun new_files is_durable [] old new = new ≡ old
IsBegun new_files is_durable (write ∷ writes) old new =
    IsWriteAt new_files is_durable write.path.now write.file old new false

-- so many of these writes were made, one after the other, and the next one, if there is one, was begun
pub record AreMade (new_files : Identity) (is_durable : Bool) (made : ℕ) (writes : List FileWrite)
    (old new : Disk) : Type 0 where
  pub mid : Disk
  pub all : DisksAfter new_files is_durable (take made writes) old mid
  pub begun : IsBegun new_files is_durable (drop made writes) mid new

-- So many of the writes were made, by way of new files in one folder, and all of them if it is done: then no new file
-- is left.
pub record IsBatch (is_durable : Bool) (writes : List FileWrite) (old new : Disk) (is_done : Bool) : Type 0 where
  pub new_files : Identity
  pub made : ℕ
  pub are_made : AreMade new_files is_durable made writes old new
  pub all : IsTrue is_done → made ≡ length writes
  pub tidy : IsTidy new_files old.files new.files is_done

-- how many of so many writes were made
abbrev pub made_of : ℕ → Result (Unit {0}) Stop → ℕ
made_of count (Ok done) = count
made_of count (Err stop) = stop.made

-- the first of these is to put a file
abbrev pub BeginsWithFile : List FileWrite → Type 0
BeginsWithFile [] = ⊥
BeginsWithFile (write ∷ writes) = write.file ≢ None
