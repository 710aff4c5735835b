-- What a folder reports of a path.
use Rattle.std.specs.Prelude.{◌≡◌, ◌⊎◌, ℕ, List, length, Option, None, Some, IsTrue}
use Rattle.std.specs.Option.{option_map}
use Rattle.reuse_store.specs.Store.{reading_of}
use Rattle.reuse_store.specs.declared.store.Reading.{Reading}
use Rattle.reuse_store.specs.declared.store.Reading.TheVariants as reading
use Rattle.reuse_system.specs.FileStates.{StateFile, FileState, place_in}
use Rattle.reuse_system.specs.Folders.{Folders, folder_above, file_at, IsBarred}
use Rattle.reuse_system.specs.Ignored.{is_ignored}
use Rattle.reuse_system.specs.Names.{IsNameOf}
use Rattle.reuse_system.specs.declared.place.FileStatus.{FileStatus}
use Rattle.reuse_system.specs.declared.place.Identity.{Identity}
use Rattle.reuse_system.specs.declared.place.Place.{Place}
use Rattle.reuse_system.specs.declared.place.Place.TheVariants as place
use Rattle.reuse_folder.specs.declared.rolled_back.Foreign.{Foreign}
use Rattle.reuse_folder.specs.declared.rolled_back.Foreign.TheVariants as foreign

-- this file stands in this folder, under the path's own name
pub record StandsIn (folder : Option Identity) (path : List ℕ) (held : FileState) (one : StateFile) : Type 0 where
  pub in_folder : Identity
  pub is_folder : folder ≡ Some in_folder
  pub name : List ℕ
  pub is_named : IsNameOf path name
  pub stands : held (place_in in_folder name) ≡ Some one

-- no file of the tree is at the path: the name is ignored, or a folder on the way is a bare repository
abbrev pub IsHidden : Folders → FileState → List ℕ → Type 0
IsHidden folders held path = IsTrue (is_ignored path) ⊎ IsBarred folders held path

-- where the path is reported to be a regular file, it lies in this folder
abbrev pub LiesIn : Folders → List ℕ → Option Identity → Place → Type 0
LiesIn folders path folder (place.File status) = folder_above folders path ≡ folder
LiesIn folders path folder place = Unit {0}

-- where the path is reported to be a regular file, one stands in this folder that is so long; else no file is at the
-- path
abbrev pub IsPlaceAt : Folders → FileState → List ℕ → Option Identity → Place → Type 0
IsPlaceAt folders held path folder (place.File status) =
    (one : StateFile) × StandsIn folder path held one × (length one.bytes ≡ status.len)
IsPlaceAt folders held path folder place.Other = (file_at folders held path ≡ None) ⊎ IsHidden folders held path
IsPlaceAt folders held path folder place = file_at folders held path ≡ None

-- all bytes of the file in this folder under the path's own name were read, or it is too long
abbrev pub IsReadIn : Option Identity → List ℕ → ℕ → FileState → Reading → Type 0
IsReadIn folder path limit held reading =
    (one : StateFile) × StandsIn folder path held one × (reading ≡ reading_of (Some one.bytes) limit)

-- what is read is what the file at the path holds, or nothing if there is none; of what is hidden it is nothing, too
abbrev pub IsReadAt : Folders → FileState → List ℕ → ℕ → Reading → Type 0
IsReadAt folders held path limit answer =
    (answer ≡ reading_of (option_map (λ one. one.bytes) (file_at folders held path)) limit)
    ⊎ (IsHidden folders held path × (answer ≡ reading.Absent))

-- where a regular file was found at the path, it stands in this folder; else there is none to be read
abbrev pub IsFoundAt : Folders → FileState → List ℕ → Option Identity → Option FileStatus → Type 0
IsFoundAt folders held path folder (Some status) =
    LiesIn folders path folder (place.File status) × IsPlaceAt folders held path folder (place.File status)
IsFoundAt folders held path folder None = (limit : ℕ) → IsReadAt folders held path limit reading.Absent

-- so it is; but what stands there and is neither a file nor a folder may be reported as a file that is too long
abbrev pub IsReadWith : Foreign → Folders → FileState → List ℕ → ℕ → Reading → Type 0
IsReadWith foreign.Absent folders held path limit answer = IsReadAt folders held path limit answer
IsReadWith foreign.TooLong folders held path limit answer =
    IsReadAt folders held path limit answer
    ⊎ ((answer ≡ reading.TooLong) × ((file_at folders held path ≡ None) ⊎ IsHidden folders held path))
