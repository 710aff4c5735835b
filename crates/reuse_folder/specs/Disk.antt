-- The folders and the files of a disk, and the file at each path of a tree.
use Rattle.std.specs.Prelude.{◌≡◌, ◌≢◌, ℕ, false, IsTrue, List, Option}
use Rattle.reuse_change.specs.Path.{is_path}
use Rattle.reuse_system.specs.FileStates.{FileState, StateFile}
use Rattle.reuse_system.specs.Folders.{Folders, file_at}
use Rattle.reuse_system.specs.Ignored.{is_ignored}
use Rattle.reuse_system.specs.declared.system.System.{Ghosts}

-- the folders and the files that names lead to
pub record Disk : Type 0 where
  pub folders : Folders
  pub files : FileState

abbrev pub disk_of : {S : Type 0} → Ghosts S → S → Disk
disk_of members system = record { folders = members.folders system; files = members.holds system }

-- the file at this path below the root
abbrev pub file_on : Disk → List ℕ → Option StateFile
file_on disk path = file_at disk.folders disk.files path

-- a file of the tree may be at the path
pub record IsOfTree (path : List ℕ) : Type 0 where
  pub is_good : IsTrue (is_path path)
  pub is_kept : is_ignored path ≡ false

-- each such path leads to the file that it led to
abbrev pub IsSameTree : Disk → Disk → Type 0
IsSameTree old new = (path : List ℕ) → IsOfTree path → file_on new path ≡ file_on old path

-- each such path but this one does
abbrev pub IsSameTreeBut : List ℕ → Disk → Disk → Type 0
IsSameTreeBut path old new =
    (other : List ℕ) → IsOfTree other → other ≢ path → file_on new other ≡ file_on old other
