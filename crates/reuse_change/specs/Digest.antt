-- The SHA-256 that a change records of a file.
use Rattle.std.specs.Prelude.{◌≡◌, ◌≢◌, ℕ, List, Option, Some, None}
use Rattle.std.specs.Option.{option_map}
use Rattle.sha2.specs.Sha256.{sha256}
use Rattle.reuse_change.specs.declared.digest.Seal.{Seal}

-- the path has a file, with the digest that is recorded of it, where one is
abbrev pub IsDigestOf : Option (List ℕ) → Option (List ℕ) → Type 0
IsDigestOf None file = Unit {0}
IsDigestOf (Some digest) file = option_map sha256 file ≡ Some digest

-- no file has this digest
abbrev pub NothingHas : List ℕ → Type 0
NothingHas digest = (bytes : List ℕ) → sha256 bytes ≢ digest

-- the digests of two files
abbrev pub seal_of : List ℕ → List ℕ → Seal
seal_of before after = record { before = sha256 before; after = sha256 after }

-- the seal, where there is one, is that of these files
abbrev pub IsSealOf : Option Seal → List ℕ → List ℕ → Type 0
IsSealOf None before after = Unit {0}
IsSealOf (Some seal) before after = seal_of before after ≡ seal

-- the digests of the way back
abbrev pub swapped : Seal → Seal
swapped seal = record { before = seal.after; after = seal.before }
