-- What the calls of a store answer, and what they leave.
use Rattle.std.specs.Prelude.{◌≡◌, ℕ, ◌⊎◌, List, length, Option, Some, None, nat_le, if◌then◌else◌}
use Rattle.std.specs.FinMap.{insert, remove}
use Rattle.reuse_change.specs.Path.{lies_under, journal_folder}
use Rattle.reuse_change.specs.Files.{Files, Clashes}
use Rattle.reuse_store.specs.declared.fault.StoreFault.{StoreFault}
use Rattle.reuse_store.specs.declared.fault.StoreFault.TheVariants.{Device, Clash, Memory}
use Rattle.reuse_store.specs.declared.store.Reading.{Reading}
use Rattle.reuse_store.specs.declared.store.Reading.TheVariants.{Absent, Found, TooLong}

-- what counts as written: the bytes handed over for a path under `.reuse/undo/`
abbrev pub counted : List ℕ → List ℕ → ℕ
counted path bytes = if lies_under path journal_folder then length bytes else 0

-- what reading a path gives, with this limit on the length
abbrev pub reading_of : Option (List ℕ) → ℕ → Reading
reading_of None limit = Absent
reading_of (Some bytes) limit = if nat_le (length bytes) limit then Found bytes else TooLong

-- the path has the bytes, and each other path what it had; nothing is put at a clash
pub record Puts (path bytes : List ℕ) (before after : Files) : Type 0 where
  pub free : ¬ (Clashes before path)
  pub files : after ≡ insert before path bytes

-- what a put that fails leaves: after a clash the files from before, else these or those that it was to leave
abbrev pub PutFails : StoreFault → List ℕ → List ℕ → Files → Files → Type 0
PutFails Clash path bytes before after = Clashes before path × (after ≡ before)
PutFails Device path bytes before after = (after ≡ before) ⊎ Puts path bytes before after
PutFails Memory path bytes before after = (after ≡ before) ⊎ Puts path bytes before after

-- what a removal that fails leaves; it meets no clash
abbrev pub RemoveFails : StoreFault → List ℕ → Files → Files → Type 0
RemoveFails Clash path before after = ⊥
RemoveFails Device path before after = (after ≡ before) ⊎ (after ≡ remove before path)
RemoveFails Memory path before after = (after ≡ before) ⊎ (after ≡ remove before path)
