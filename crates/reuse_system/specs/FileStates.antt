-- The regular files that names in folders lead to.
use Rattle.std.specs.Prelude.{◌≡◌, ◌≢◌, ℕ, Bool, List, ◌∷◌, Option, None, Some}
use Rattle.reuse_system.specs.declared.place.Identity.{Identity}

-- which file it is: one that was there at the start, by a number of its own, or one that was made since, by how many
-- were made before
pub data FileKey : Type 0 where
  Found : ℕ → FileKey
  Made : ℕ → FileKey

-- a file: which one it is, its bytes, and whether a loss of power surely leaves it these
pub record StateFile : Type 0 where
  pub key : FileKey
  pub bytes : List ℕ
  pub is_durable : Bool

-- a name in a folder: the device and the number of the folder, and then the bytes of the name
abbrev pub Place : Type 0
Place = List ℕ

abbrev pub place_in : Identity → List ℕ → Place
place_in folder name = folder.device ∷ folder.number ∷ name

-- what each name leads to: a regular file, or nothing that is one
abbrev pub FileState : Type 0
FileState = Place → Option StateFile

abbrev pub file : FileKey → List ℕ → Bool → Option StateFile
file key bytes is_durable = Some (record { key = key; bytes = bytes; is_durable = is_durable })

-- no such file, whatever stands there
abbrev pub IsNot : FileKey → Option StateFile → Type 0
IsNot key None = Unit {0}
IsNot key (Some held) = held.key ≢ key

-- a file of these bytes stands there
abbrev pub Holds : FileState → Place → List ℕ → Bool → Type 0
Holds held place bytes is_durable = (key : FileKey) × (held place ≡ file key bytes is_durable)
