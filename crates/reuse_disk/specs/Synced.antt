-- What a barrier has synced.
use Rattle.std.specs.Prelude.{◌≡◌, ◌<◌, ◌++◌, ◌∷◌, ℕ, List, Some, slice_index_or}
use Rattle.reuse_change.specs.Change.{path_of}
use Rattle.reuse_change.specs.declared.change.Change.{Change}
use Rattle.reuse_system.specs.FileStates.{FileState}
use Rattle.reuse_system.specs.Folders.{Folders, folder_at, IsBarred}
use Rattle.reuse_system.specs.Names.{IsSplit}
use Rattle.reuse_system.specs.declared.place.Identity.{Identity}

-- such a folder is the one that the path lies in
pub record IsAbove (IsOne : List ℕ → Type 0) (path : List ℕ) : Type 0 where
  pub above : List ℕ
  pub name : List ℕ
  pub is_split : IsSplit path above name
  pub is_one : IsOne above

-- so it is of the paths of the first so many changes
abbrev pub AreAbove : (IsOne : List ℕ → Type 0) → List Change → (count : ℕ) → Type 0
AreAbove IsOne changes count =
    (k : ℕ) (change : Change) → k < count → change ≡ slice_index_or changes k change → IsAbove IsOne (path_of change)

-- the folder is among those that were synced since then; each list has the newest first
pub record IsSyncedSince (before after : List Identity) (folder : Identity) : Type 0 where
  pub later : List Identity
  pub earlier : List Identity
  pub grown : after ≡ later ++ folder ∷ earlier ++ before

-- what the path leads to was synced since then, if that is a folder, and no bare repository is on its way
abbrev pub IsSyncedAt : Folders → FileState → (before after : List Identity) → List ℕ → Type 0
IsSyncedAt folders held before after path =
    (folder : Identity) → folder_at folders path ≡ Some folder → ¬ (IsBarred folders held path)
    → IsSyncedSince before after folder

-- so it was at each such path
abbrev pub AreSynced : (IsOne : List ℕ → Type 0) → Folders → FileState → (before after : List Identity) → Type 0
AreSynced IsOne folders held before after =
    (path : List ℕ) → IsOne path → IsSyncedAt folders held before after path

-- what the path leads to is what a path leads to that is there, if that is a folder, and no bare repository is on its
-- way
abbrev pub IsFoundAmong : Folders → FileState → (IsThere : List ℕ → Type 0) → List ℕ → Type 0
IsFoundAmong folders held IsThere path =
    (folder : Identity) → folder_at folders path ≡ Some folder → ¬ (IsBarred folders held path)
    → (other : List ℕ) × IsThere other × (folder_at folders other ≡ Some folder)

-- so it is of each such path
abbrev pub HaveFolders : (IsOne IsThere : List ℕ → Type 0) → Folders → FileState → Type 0
HaveFolders IsOne IsThere folders held =
    (path : List ℕ) → IsOne path → IsFoundAmong folders held IsThere path
