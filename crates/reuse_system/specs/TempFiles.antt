-- Places of temporary files that are written or read, and of names in open folders.
use Rattle.std.specs.Prelude.{◌≡◌, ◌⊎◌, ◌++◌, ◌==◌, ℕ, Bool, not, List, decimal, string_bytes, IsTrue}
use Rattle.std.specs.Prelude.{if◌then◌else◌}
use Rattle.reuse_change.specs.Layout.{new_name as first_new_name, new_beside_numbered, new_numbered}
use Rattle.reuse_system.specs.FileStates.{FileKey, Place, place_in}
use Rattle.reuse_system.specs.FileStates.FileKey.{Made}
use Rattle.reuse_system.specs.Ignored.{is_beside_name, is_new_name}
use Rattle.reuse_system.specs.declared.place.Identity.{Identity}
use Rattle.reuse_system.specs.declared.handle.OpenFolder.{OpenFolder}
use Rattle.reuse_system.specs.declared.system.TempFile.{TempFile}
use Rattle.reuse_system.specs.declared.system.OpenedFile.{OpenedFile}

-- this name in the folder
abbrev pub name_in : OpenFolder → List ℕ → Place
name_in folder name = place_in folder.identity name

-- where the file was made
abbrev pub place_of : TempFile → Place
place_of temp_file = place_in temp_file.folder (string_bytes temp_file.name)

-- where the file was opened
abbrev pub opened_at : OpenedFile → Place
opened_at opened = place_in opened.folder (string_bytes opened.name)

-- which file it is
abbrev pub key_of : TempFile → FileKey
key_of temp_file = Made temp_file.number

-- the name of a new file in this folder
abbrev pub IsNewIn : Identity → Place → Type 0
IsNewIn folder place = (name : List ℕ) × IsTrue (is_new_name name) × (place ≡ place_in folder name)

-- the name of the new file of this number
abbrev pub new_name : ℕ → List ℕ
new_name number = if number == 0 then first_new_name else new_numbered ++ decimal number

-- The name of a file that is written beside the one that it is to be: behind the dot stands the number of the folder
-- of new files, so it is no name of anybody else's.
abbrev pub beside_name : Identity → List ℕ
beside_name new_files = new_beside_numbered ++ decimal new_files.number

-- the folders lie on different devices
abbrev pub is_elsewhere : Identity → Identity → Bool
is_elsewhere one other = not (one.device == other.device)

-- where a new file is written: in the folder of new files, or else beside the one that it is to be
abbrev pub IsNewPlace : Identity → Identity → Place → Type 0
IsNewPlace new_files target place = IsNewIn new_files place ⊎ (place ≡ place_in target (beside_name new_files))

-- no file is to have this name in the folder: a new file is written so there, or may be
abbrev pub IsNewNameIn : Identity → Identity → List ℕ → Type 0
IsNewNameIn new_files folder name = IsTrue (is_beside_name name) ⊎ ((folder ≡ new_files) × IsTrue (is_new_name name))
