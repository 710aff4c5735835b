-- Folders that are made and removed.
use Rattle.std.proofs.Common.{◌≡◌, List, [], ◌∷◌, get_or, Option, None, Some, IfSome, refl, sym, ◌∙◌, ℕ, subst}
use Rattle.std.proofs.Common.{string_bytes}
use Rattle.reuse_system.specs.FileStates.{Place, place_in}
use Rattle.reuse_system.specs.Folders.{Folders, folder_along, folder_at, IsAlikeFoldersBut, IsGrown}
use Rattle.reuse_system.specs.Names.{between_slashes}
use Rattle.reuse_system.specs.declared.place.Identity.{Identity}
use Rattle.reuse_disk.specs.OpenFolders.{AreOpened, IsRootOpened}
use Rattle.reuse_disk.specs.declared.open_folders.OpenFolders.{OpenFolders}

-- ---- folders only come

pub grown_twice : (a b c : Folders) → IsGrown a b → IsGrown b c → IsGrown a c
grown_twice a b c one two =
    record { root = two.root ∙ one.root; stays = λ place folder is. two.stays place folder (one.stays place folder is) }

none_along : (folders : Folders) (names : List (List ℕ)) → folder_along folders None names ≡ None
none_along folders [] = refl
none_along folders (name ∷ names) = refl

module _ (old new : Folders) (grown : IsGrown old new) where
  -- where a name led to a folder
  along_name : (names : List (List ℕ)) (one : Identity) (place : Place) (o : Option Identity) → old.below place ≡ o
      → ((at : Identity) → folder_along old (Some at) names ≡ Some one → folder_along new (Some at) names ≡ Some one)
      → folder_along old o names ≡ Some one → folder_along new (new.below place) names ≡ Some one
  along_name names one place None is more e = let none : None ≡ Some one = sym (none_along old names) ∙ e in absurd (cc)
  along_name names one place (Some at) is more e =
      subst (λ o. folder_along new o names ≡ Some one) (sym (grown.stays place at is)) (more at e)

  along_grown : (names : List (List ℕ)) (at one : Identity) → folder_along old (Some at) names ≡ Some one
      → folder_along new (Some at) names ≡ Some one
  along_grown [] at one e = e
  along_grown ([] ∷ names) at one e = along_grown names at one e
  along_grown ((byte ∷ name) ∷ names) at one e =
      along_name names one (place_in at (byte ∷ name)) (old.below (place_in at (byte ∷ name))) refl
      (λ below. along_grown names below one) e

  pub at_grown : (path : List ℕ) (one : Identity) → folder_at old path ≡ Some one → folder_at new path ≡ Some one
  at_grown path one e =
      subst (λ root. folder_along new (Some root) (between_slashes path) ≡ Some one) (sym grown.root)
      (along_grown (between_slashes path) old.root one e)

  root_grown : (open_folders : OpenFolders) → IsRootOpened old open_folders → IsRootOpened new open_folders
  root_grown open_folders is =
      subst (λ root. IfSome open_folders.root (λ folder. folder.identity ≡ root)) (sym grown.root) is

  -- each open folder stays that of its path
  pub opened_grown : (open_folders : OpenFolders) → AreOpened old open_folders → AreOpened new open_folders
  opened_grown open_folders are = (
    root_grown open_folders are.0,
    λ k d short. at_grown (string_bytes (get_or open_folders.steps.items k d).path)
        (get_or open_folders.steps.items k d).folder.identity (are.1 k d short),
  )

-- only the root stays open
pub root_stays : (old new : Folders) (open_folders : OpenFolders) (place : Place) → IsAlikeFoldersBut place old new
    → IsRootOpened old open_folders → IsRootOpened new open_folders
root_stays old new open_folders place alike is =
    subst (λ root. IfSome open_folders.root (λ folder. folder.identity ≡ root)) (sym alike.root) is
