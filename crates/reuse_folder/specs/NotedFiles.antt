-- What a store notes of the files, beside what the disk has.
use Rattle.std.specs.Prelude.{◌≡◌, ◌⊎◌, ℕ, List, [], ◌∷◌, None}
use Rattle.std.specs.FinMap.{get}
use Rattle.std.specs.Option.{option_map}
use Rattle.reuse_change.specs.Files.{Files}
use Rattle.reuse_system.specs.Folders.{IsBarred}
use Rattle.reuse_store.specs.declared.file_write.FileWrite.{FileWrite}
use Rattle.reuse_folder.specs.Disk.{Disk, file_on, IsOfTree}

-- what is noted of the path is what the disk has there
abbrev pub IsAsNoted : Files → Disk → List ℕ → Type 0
IsAsNoted noted disk path = get noted path ≡ option_map (λ one. one.bytes) (file_on disk path)

-- Of each path of the tree: if what is noted of it was what the disk had, it still is. A path on the way to which is a
-- bare repository is none of the tree.
abbrev pub StayAsNoted : (noted now : Files) → (old new : Disk) → Type 0
StayAsNoted noted now old new =
    (path : List ℕ) → IsOfTree path → IsAsNoted noted old path
    → IsAsNoted now new path ⊎ IsBarred new.folders new.files path

-- one of these writes removes the file at the path
abbrev pub IsRemovedBy : List FileWrite → List ℕ → Type 0
IsRemovedBy [] path = ⊥
IsRemovedBy (write ∷ writes) path = ((write.path.now ≡ path) × (write.file ≡ None)) ⊎ IsRemovedBy writes path

-- the same of each path that none of these writes removes
abbrev pub StayAsWritten : List FileWrite → (noted now : Files) → (old new : Disk) → Type 0
StayAsWritten writes noted now old new =
    (path : List ℕ) → IsOfTree path → ¬ (IsRemovedBy writes path) → IsAsNoted noted old path → IsAsNoted now new path
