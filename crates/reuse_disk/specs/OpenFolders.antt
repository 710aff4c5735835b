-- Open folders, and what entering a path reports.
use Rattle.std.specs.Prelude.{◌≡◌, ◌≢◌, ◌⊎◌, ℕ, ◌-◌, ◌<◌, ◌++◌, List, [], ◌∷◌, length, Option, None, Some, IfSome}
use Rattle.std.specs.Prelude.{Result, Ok, Err, IfOk, slice_get, slice_index, string_bytes}
use Rattle.std.specs.List.{All}
use Rattle.std.specs.Option.{option_map, option_or, unwrap_or}
use Rattle.reuse_system.specs.Names.{between_slashes}
use Rattle.reuse_system.specs.FileStates.{FileState}
use Rattle.reuse_system.specs.Folders.{Folders, folder_along, folder_at, IsBarredAlong, IsBarred}
use Rattle.reuse_system.specs.SystemLaws.{IsOpenedBelow}
use Rattle.reuse_system.specs.declared.fault.FolderFault.{FolderFault}
use Rattle.reuse_system.specs.declared.handle.Below.{Below}
use Rattle.reuse_system.specs.declared.handle.Below.TheVariants as below
use Rattle.reuse_system.specs.declared.place.Identity.{Identity}
use Rattle.reuse_system.specs.declared.place.Place.{Place}
use Rattle.reuse_system.specs.declared.place.Place.TheVariants as place
use Rattle.reuse_disk.specs.declared.open_folders.OpenFolders.{OpenFolders}

-- the folder that was entered last: that of the last step, or the root
abbrev pub current_of : OpenFolders → Option Identity
current_of open_folders =
    option_or (option_map (λ step. step.folder.identity)
    (slice_get open_folders.steps.items (length open_folders.steps.items - 1)))
    (option_map (λ folder. folder.identity) open_folders.root)

-- the path of the folder that was entered last; none where no folder is open
abbrev pub path_of : OpenFolders → List ℕ
path_of open_folders =
    unwrap_or (option_map (λ step. string_bytes step.path)
    (slice_get open_folders.steps.items (length open_folders.steps.items - 1))) []

-- the root is the root, if it is open
abbrev pub IsRootOpened : Folders → OpenFolders → Type 0
IsRootOpened folders open_folders = IfSome open_folders.root (λ folder. folder.identity ≡ folders.root)

-- the root is the root, and each other open folder is the one that its path leads to
abbrev pub AreOpened : Folders → OpenFolders → Type 0
AreOpened folders open_folders =
    IsRootOpened folders open_folders
    × All (λ step. folder_at folders (string_bytes step.path) ≡ Some step.folder.identity) open_folders.steps.items

-- so they are if the system is honest
abbrev pub AreOpenedIf : Type 0 → Folders → OpenFolders → Type 0
AreOpenedIf honest folders open_folders = honest → AreOpened folders open_folders

-- no slash is among these bytes
abbrev pub HasNoSlash : List ℕ → Type 0
HasNoSlash name = (i : ℕ) → i < length name → slice_index name i ≢ 47

-- the rest of a path, behind the name that it begins with and the slash behind that
pub record IsNext (text name rest : List ℕ) : Type 0 where
  pub parts : (text ≡ name ++ 47 ∷ rest) ⊎ ((text ≡ name) × (rest ≡ []))
  pub has_no_slash : HasNoSlash name
  pub is_shorter : length rest < length text

-- what of a path lies below a folder
abbrev pub IsRest : List ℕ → List ℕ → List ℕ → Type 0
IsRest folder path rest =
    ((folder ≡ []) × (rest ≡ path)) ⊎ ((path ≡ folder) × (rest ≡ [])) ⊎ (path ≡ folder ++ 47 ∷ rest)

-- the rest of a path leads from this folder to where the path leads from the root
pub record IsOnWay (folders : Folders) (held : FileState) (current : Option Identity)
    (rest path : List ℕ) : Type 0 where
  pub no_rest : path ≡ [] → rest ≡ []
  pub leads : folder_along folders current (between_slashes rest) ≡ folder_at folders path
  pub barred : IsBarredAlong folders held current (between_slashes rest) → IsBarred folders held path

-- what entering the folder at a path reports: that it is this one, or else what a path below it is
abbrev pub IsEntered : Folders → FileState → List ℕ → Option Identity → Option Place → Type 0
IsEntered folders held path current None = folder_at folders path ≡ current
IsEntered folders held path current (Some place.Other) =
    (path ≢ []) × ((folder_at folders path ≡ None) ⊎ IsBarred folders held path)
IsEntered folders held path current (Some place) = folder_at folders path ≡ None

-- the folder that was opened is the one of this name
abbrev pub IsOpenedFrom : Folders → Option Identity → List ℕ → Result Below FolderFault → Type 0
IsOpenedFrom folders current name (Ok (below.Folder folder)) =
    folder_along folders current (name ∷ []) ≡ Some folder.identity
IsOpenedFrom folders current name (Ok (below.Other found)) = Unit {0}
IsOpenedFrom folders current name (Err fault) = Unit {0}

-- what was opened has this name in the folder that was entered last, which is one
abbrev pub IsOpenedInLast : Folders → FileState → Option Identity → List ℕ → Result Below FolderFault → Type 0
IsOpenedInLast folders held current name result =
    IfOk result (λ below. (at : Identity) × (current ≡ Some at) × IsOpenedBelow folders held at name (Ok below))

-- the path of this name in the folder of this path
abbrev pub path_below : List ℕ → List ℕ → List ℕ
path_below [] name = name
path_below (byte ∷ folder) name = byte ∷ folder ++ 47 ∷ name
