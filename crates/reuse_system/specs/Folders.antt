-- The folders that names in folders lead to, and where a path leads.
use Rattle.std.specs.Prelude.{◌≡◌, ◌≢◌, ◌⊎◌, ℕ, Bool, List, [], ◌∷◌, Option, None, Some, IsTrue, codes}
use Rattle.reuse_system.specs.Names.{between_slashes}
use Rattle.reuse_system.specs.FileStates.{StateFile, Place, FileState, place_in}
use Rattle.reuse_system.specs.declared.place.Identity.{Identity}

-- the root; the folder that each name in a folder leads to; and the names that lead to something else that is no
-- regular file
pub record Folders : Type 0 where
  pub root : Identity
  pub below : Place → Option Identity
  pub is_other : Place → Bool

-- the root is the same, and each folder stays where it was
pub record IsGrown (old new : Folders) : Type 0 where
  pub root : new.root ≡ old.root
  pub stays : (place : Place) (one : Identity) → old.below place ≡ Some one → new.below place ≡ Some one

-- nothing differs but the folder at this place
pub record IsAlikeFoldersBut (place : Place) (old new : Folders) : Type 0 where
  pub root : new.root ≡ old.root
  pub is_other : new.is_other ≡ old.is_other
  pub others : (other : Place) → other ≢ place → new.below other ≡ old.below other

-- the folder of this name in a folder; an empty name leads to the folder itself
abbrev pub folder_in : Folders → Identity → List ℕ → Option Identity
folder_in folders at [] = Some at
folder_in folders at (byte ∷ name) = folders.below (place_in at (byte ∷ name))

-- the folder along these names, from a folder
abbrev pub folder_along : Folders → Option Identity → List (List ℕ) → Option Identity
folder_along folders at [] = at
folder_along folders None (name ∷ names) = None
folder_along folders (Some at) (name ∷ names) = folder_along folders (folder_in folders at name) names

-- the folder at this path below the root
abbrev pub folder_at : Folders → List ℕ → Option Identity
folder_at folders path = folder_along folders (Some folders.root) (between_slashes path)

-- where a folder is at this path, it stays there
abbrev pub StaysAt : List ℕ → Folders → Folders → Type 0
StaysAt path old new = (folder : Identity) → folder_at old path ≡ Some folder → folder_at new path ≡ Some folder

-- the regular file of this name in a folder
abbrev pub file_in : FileState → Option Identity → List ℕ → Option StateFile
file_in held None name = None
file_in held (Some at) name = held (place_in at name)

-- the regular file along these names, from a folder: that of the last name
abbrev pub file_along : Folders → FileState → Option Identity → List (List ℕ) → Option StateFile
file_along folders held at [] = None
file_along folders held at (name ∷ []) = file_in held at name
file_along folders held None (name ∷ next ∷ names) = None
file_along folders held (Some at) (name ∷ next ∷ names) =
    file_along folders held (folder_in folders at name) (next ∷ names)

-- the regular file at this path below the root
abbrev pub file_at : Folders → FileState → List ℕ → Option StateFile
file_at folders held path = file_along folders held (Some folders.root) (between_slashes path)

-- each path leads to the same file in both
abbrev pub HaveSameFiles : Folders → Folders → FileState → Type 0
HaveSameFiles old new held = (path : List ℕ) → file_at new held path ≡ file_at old held path

-- all names but the last one
abbrev pub without_last : List (List ℕ) → List (List ℕ)
without_last [] = []
without_last (name ∷ []) = []
without_last (name ∷ next ∷ names) = name ∷ without_last (next ∷ names)

-- the folder that this path below the root lies in
abbrev pub folder_above : Folders → List ℕ → Option Identity
folder_above folders path = folder_along folders (Some folders.root) (without_last (between_slashes path))

-- anything has this name
abbrev pub Stands : Folders → FileState → Place → Type 0
Stands folders held place = (held place ≢ None) ⊎ (folders.below place ≢ None) ⊎ IsTrue (folders.is_other place)

-- the folder is a bare repository of git: `HEAD`, `objects` and `refs` stand in it
abbrev pub IsBare : Folders → FileState → Option Identity → Type 0
IsBare folders held None = ⊥
IsBare folders held (Some at) =
    Stands folders held (place_in at (codes "HEAD")) × Stands folders held (place_in at (codes "objects"))
    × Stands folders held (place_in at (codes "refs"))

-- one of the folders along these names is a bare repository
abbrev pub IsBarredAlong : Folders → FileState → Option Identity → List (List ℕ) → Type 0
IsBarredAlong folders held at [] = ⊥
IsBarredAlong folders held None (name ∷ names) = ⊥
IsBarredAlong folders held (Some at) (name ∷ names) =
    IsBare folders held (folder_in folders at name) ⊎ IsBarredAlong folders held (folder_in folders at name) names

-- one of the folders on the way to this path below the root, or at it, is a bare repository
abbrev pub IsBarred : Folders → FileState → List ℕ → Type 0
IsBarred folders held path = IsBarredAlong folders held (Some folders.root) (between_slashes path)
