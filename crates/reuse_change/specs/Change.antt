-- A change of one file: from what its path holds to what it holds then.
use Rattle.std.specs.Prelude.{◌≡◌, ◌≢◌, ◌⊎◌, ◌-◌, ℕ, Bool, List, ◌++◌, length, Option, Some, None, is_some}
use Rattle.std.specs.FinMap.{get}
use Rattle.std.specs.Option.{option_map}
use Rattle.sha2.specs.Sha256.{sha256}
use Rattle.reuse_text.specs.Text.{spliced}
use Rattle.reuse_change.specs.Digest.{IsDigestOf, seal_of, swapped}
use Rattle.reuse_change.specs.Files.{Files}
use Rattle.reuse_change.specs.declared.change.Change.{Change}
use Rattle.reuse_change.specs.declared.change.Change.TheVariants.{Make, Drop, Splice}

-- the path that the change is of
abbrev pub path_of : Change → List ℕ
path_of (Make path new after) = path
path_of (Drop path old before) = path
path_of (Splice path at old new rest seal) = path

-- the change that leads back
abbrev pub inverse_of : Change → Change
inverse_of (Make path new after) = Drop path new after
inverse_of (Drop path old before) = Make path old before
inverse_of (Splice path at old new rest seal) = Splice path at new old rest (option_map swapped seal)

-- it changes something
abbrev pub IsProper : Change → Type 0
IsProper (Make path new after) = Unit {0}
IsProper (Drop path old before) = Unit {0}
IsProper (Splice path at old new rest seal) = old ≢ new

-- the digest that is recorded of the file before, if one is
abbrev pub digest_before : Change → Option (List ℕ)
digest_before (Make path new after) = None
digest_before (Drop path old before) = before
digest_before (Splice path at old new rest seal) = option_map (λ s. s.before) seal

-- the digest that is recorded of the file after, if one is
abbrev pub digest_after : Change → Option (List ℕ)
digest_after (Make path new after) = after
digest_after (Drop path old before) = None
digest_after (Splice path at old new rest seal) = option_map (λ s. s.after) seal

-- the digests of its files are recorded
abbrev pub is_sealed : Change → Bool
is_sealed (Make path new after) = is_some after
is_sealed (Drop path old before) = is_some before
is_sealed (Splice path at old new rest seal) = is_some seal

-- the digest is recorded, of the file before or of the file after
abbrev pub Records : Change → List ℕ → Type 0
Records change digest = (digest_before change ≡ Some digest) ⊎ (digest_after change ≡ Some digest)

-- the file is so many bytes, the part, and so many bytes
pub record HoldsBetween (file : Option (List ℕ)) (front part back : List ℕ) (at rest : ℕ) : Type 0 where
  pub whole : file ≡ Some (front ++ part ++ back)
  pub before : length front ≡ at
  pub behind : length back ≡ rest

-- the file has the part there
abbrev pub HoldsPart : Option (List ℕ) → List ℕ → ℕ → ℕ → Type 0
HoldsPart file part at rest = (front : List ℕ) × (back : List ℕ) × HoldsBetween file front part back at rest

-- by range and length alone, the change leads from what the path holds before to what it holds after
abbrev pub AppliesByRange : Change → Option (List ℕ) → Option (List ℕ) → Type 0
AppliesByRange (Make path new digest) before after = (before ≡ None) × (after ≡ Some new)
AppliesByRange (Drop path old digest) before after = (before ≡ Some old) × (after ≡ None)
AppliesByRange (Splice path at old new rest seal) before after =
    (front : List ℕ) × (back : List ℕ) × HoldsBetween before front old back at rest
    × HoldsBetween after front new back at rest

-- the change leads from what the path holds before to what it holds after: each has the digest that is recorded of it
pub record Applies (change : Change) (before after : Option (List ℕ)) : Type 0 where
  pub range : AppliesByRange change before after
  pub from : IsDigestOf (digest_before change) before
  pub to : IsDigestOf (digest_after change) after

-- the change can be made where the path holds this
abbrev pub IsBefore : Change → Option (List ℕ) → Type 0
IsBefore change file = (after : Option (List ℕ)) × Applies change file after

-- the change can be rolled back where the path holds this
abbrev pub IsAfter : Change → Option (List ℕ) → Type 0
IsAfter change file = (before : Option (List ℕ)) × Applies change before file

-- by range and length alone, the change can be made where the path holds this
abbrev pub IsBeforeByRange : Change → Option (List ℕ) → Type 0
IsBeforeByRange change file = (after : Option (List ℕ)) × AppliesByRange change file after

-- by range and length alone, the change can be rolled back where the path holds this
abbrev pub IsAfterByRange : Change → Option (List ℕ) → Type 0
IsAfterByRange change file = (before : Option (List ℕ)) × AppliesByRange change before file

-- the change leads from these files to those, which differ at its path alone
pub record Leads (change : Change) (before after : Files) : Type 0 where
  pub here : Applies change (get before (path_of change)) (get after (path_of change))
  pub elsewhere : (path : List ℕ) → path ≢ path_of change → get after path ≡ get before path

-- ---- changes that are sealed as they are planned

-- the file of these bytes is made
abbrev pub sealed_make : List ℕ → List ℕ → Change
sealed_make path new = Make path new (Some (sha256 new))

-- the file of these bytes is removed
abbrev pub sealed_drop : List ℕ → List ℕ → Change
sealed_drop path old = Drop path old (Some (sha256 old))

-- the part of this file that begins at `at` gives way to `new`
abbrev pub sealed_splice : List ℕ → List ℕ → ℕ → List ℕ → List ℕ → Change
sealed_splice path file at old new = Splice path at old new (length file - at - length old)
    (Some (seal_of file (spliced file at (length old) new)))
