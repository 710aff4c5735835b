-- What a folder makes of the files that names lead to, where a path is put or removed. Which folder is that of new
-- files is not said, but where it is open.
use Rattle.std.specs.Prelude.{◌≡◌, ◌⊎◌, ℕ, Bool, false, IsTrue, List, Option, None, Some, IfSome, Result, IfOk}
use Rattle.reuse_system.specs.TempFiles.{IsNewIn, IsNewPlace}
use Rattle.reuse_system.specs.FileStates.{FileKey, FileState, Place, file, place_in}
use Rattle.reuse_folder.specs.FolderReads.{IsHidden}
use Rattle.reuse_system.specs.Folders.{Folders, folder_above, file_at}
use Rattle.reuse_system.specs.NameChanges.{NameChange, OnlyChanges}
use Rattle.reuse_system.specs.Names.{IsNameOf}
use Rattle.reuse_system.specs.SystemLaws.{IsAlike, IsAlikeBut, IsAlikeUnless}
use Rattle.reuse_disk.specs.Written.{IsWritten, LeavesNone}
use Rattle.reuse_disk.specs.declared.new_file.NewFile.{NewFile}
use Rattle.reuse_system.specs.declared.place.Identity.{Identity}

-- The bytes were put at the path, as a whole or not at all: in some folder, under the path's own name there, and by way
-- of new files in this folder or beside the target, which is none of them; nothing else differs.
pub record IsPutAt (new_files : Identity) (path bytes : List ℕ) (is_durable : Bool) (old new : FileState)
    (is_done : Bool) : Type 0 where
  pub folder : Identity
  pub name : List ℕ
  pub is_named : IsNameOf path name
  pub apart : ¬ (IsNewPlace new_files folder (place_in folder name))
  pub written : IsWritten (IsNewPlace new_files folder) (place_in folder name) bytes is_durable old new is_done

-- nothing was put, and nothing differs but new files in this folder
abbrev pub IsNotPut : (new_files : Identity) → FileState → FileState → Bool → Type 0
IsNotPut new_files old new is_done = (is_done ≡ false) × IsAlikeUnless (IsNewIn new_files) old new

-- the bytes were put at the path, in some folder, or they weren't
abbrev pub IsPutBy : (new_files : Identity) → (path bytes : List ℕ) → Bool → FileState → FileState → Bool → Type 0
IsPutBy new_files path bytes is_durable old new is_done =
    IsNotPut new_files old new is_done ⊎ IsPutAt new_files path bytes is_durable old new is_done

-- they were in the folder that the path lies in, or they weren't
abbrev pub IsPutIn : (new_files : Identity) → Folders → (path bytes : List ℕ) → Bool → FileState
    → FileState → Bool → Type 0
IsPutIn new_files folders path bytes is_durable old new is_done =
    IsNotPut new_files old new is_done
    ⊎ ((put : IsPutAt new_files path bytes is_durable old new is_done) × (folder_above folders path ≡ Some put.folder))

-- a name of new files in this folder, or one beside any file that is written from there
abbrev pub IsNewOf : (new_files : Identity) → Place → Type 0
IsNewOf new_files place = (folder : Identity) × IsNewPlace new_files folder place

-- if it is done, no new file is left
abbrev pub IsTidy : (new_files : Identity) → FileState → FileState → (is_done : Bool) → Type 0
IsTidy new_files old new is_done = IsTrue is_done → LeavesNone (IsNewOf new_files) old new

-- the path was put by way of some folder of new files, and if it is done, none of them is left
abbrev pub IsPutTidily : Folders → (path bytes : List ℕ) → Bool → FileState → FileState → Bool → Type 0
IsPutTidily folders path bytes is_durable old new is_done =
    (new_files : Identity) × IsPutIn new_files folders path bytes is_durable old new is_done
    × IsTidy new_files old new is_done

-- this is the folder that is open for new files, if one is
abbrev pub IsFolderOf : Option NewFile → Identity → Type 0
IsFolderOf open_for folder = IfSome open_for (λ new_file. new_file.folder.identity ≡ folder)

-- the regular file at the path has these bytes
abbrev pub IsStoredAt : Folders → FileState → (path bytes : List ℕ) → Bool → Type 0
IsStoredAt folders held path bytes is_durable =
    (key : FileKey) × (file_at folders held path ≡ file key bytes is_durable)

-- nothing differs but at the path's own name in some folder
pub record IsRemovedAt (path : List ℕ) (old new : FileState) : Type 0 where
  pub folder : Identity
  pub name : List ℕ
  pub is_named : IsNameOf path name
  pub others : IsAlikeBut (place_in folder name) old new

-- nothing differs but, perhaps, at the path's own name in the folder that the path lies in
abbrev pub IsRemovedIn : Folders → List ℕ → FileState → FileState → Type 0
IsRemovedIn folders path old new =
    IsAlike old new
    ⊎ ((folder : Identity) × (name : List ℕ) × (folder_above folders path ≡ Some folder) × IsNameOf path name
    × IsAlikeBut (place_in folder name) old new)

-- no regular file is at the path, or none of the tree
abbrev pub IsGone : Folders → FileState → List ℕ → Type 0
IsGone folders held path = (file_at folders held path ≡ None) ⊎ IsHidden folders held path

-- nothing differs but new files in one folder, which is that of these new files, where there are any, and the one that
-- was open for new files, if one was; no other name changed, and if all went well, no new file came
pub record IsCleared {E : Type 0} (before after : List NameChange) (open_for : Option NewFile) (old new : FileState)
    (answer : Result NewFile E) : Type 0 where
  pub folder : Identity
  pub was : IsFolderOf open_for folder
  pub others : IsAlikeUnless (IsNewIn folder) old new
  pub none_left : IfOk answer (λ new_files. LeavesNone (IsNewIn folder) old new)
  pub is_folder : IfOk answer (λ new_files. new_files.folder.identity ≡ folder)
  pub changed : OnlyChanges (IsNewIn folder) before after
