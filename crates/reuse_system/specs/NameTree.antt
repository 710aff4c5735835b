-- When names in folders form a tree.
use Rattle.std.specs.Prelude.{◌≡◌, ◌≢◌, ◌⊎◌, List, ℕ, None, Some}
use Rattle.reuse_system.specs.FileStates.{Place, FileState, place_in}
use Rattle.reuse_system.specs.Folders.{Folders}
use Rattle.reuse_system.specs.declared.place.Identity.{Identity}

-- the folder is the root, or a name leads to it
abbrev pub HasName : Folders → Identity → Type 0
HasName folders folder = (folder ≡ folders.root) ⊎ ((place : Place) × (folders.below place ≡ Some folder))

-- No name leads to both a file and a folder. No folder has two names, and the root has none. Each name that leads to
-- one of them is in the root, or in a folder that has a name itself.
pub record IsNameTree (folders : Folders) (held : FileState) : Type 0 where
  pub one_kind : (place : Place) → held place ≢ None → folders.below place ≡ None
  pub one_name : (one other : Place) (folder : Identity) → folders.below one ≡ Some folder
      → folders.below other ≡ Some folder → one ≡ other
  pub no_name : (place : Place) → folders.below place ≢ Some folders.root
  pub reached : (place : Place) → (held place ≢ None) ⊎ (folders.below place ≢ None)
      → (folder : Identity) × (name : List ℕ) × (place ≡ place_in folder name) × HasName folders folder
