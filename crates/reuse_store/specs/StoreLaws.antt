-- What the calls of a store answer and leave, over the members of its trait: what each path holds, what a loss of power
-- may leave, the
-- three counts, and honesty.
use Rattle.std.specs.Prelude.{◌≡◌, ◌≢◌, ◌⊎◌, ℕ, ◌+◌, ◌<◌, ◌≤◌, List, [], ◌∷◌, Option, Some, None, Result, Ok, Err}
use Rattle.std.specs.Prelude.{MatchResult, IfErr, OnOk, IsErrOf}
use Rattle.std.specs.FinMap.{insert, remove}
use Rattle.reuse_change.specs.Files.{Files, Clashes}
use Rattle.reuse_store.specs.Durable.{DurableAfterBarrier}
use Rattle.reuse_change.specs.Parts.{joined}
use Rattle.reuse_store.specs.Store.{counted, Puts, PutFails, RemoveFails}
use Rattle.reuse_change.specs.declared.change.Change.{Change}
use Rattle.reuse_store.specs.declared.fault.StoreFault.{StoreFault}
use Rattle.reuse_store.specs.declared.file_write.FileWrite.{FileWrite}
use Rattle.reuse_change.specs.declared.parts.Pieces.{Pieces}
use Rattle.reuse_store.specs.declared.fault.StoreFault.TheVariants.{Device, Clash}

-- nothing but listings and readings were asked for, or barriers: no file changed, nothing was written or moved, and a
-- loss of power may
-- leave no more than before
pub record OnlyReads {S : Type 0} (files_of : S → Files) (MayBe : S → Files → Type 0)
    (failures_of written_of mutations_of : S → ℕ) (IsHonest : S → Type 0) (old new : S) : Type 0 where
  pub was_honest : IsHonest new → IsHonest old
  pub files : IsHonest new → files_of new ≡ files_of old
  pub may : (left : Files) → MayBe new left → MayBe old left
  pub failures : failures_of old ≤ failures_of new
  pub written : written_of new ≡ written_of old
  pub mutations : mutations_of new ≡ mutations_of old

-- calls were made: no count fell, and honesty was not gained
pub record IsLater {S : Type 0} (failures_of written_of mutations_of : S → ℕ) (IsHonest : S → Type 0)
    (old new : S) : Type 0 where
  pub was_honest : IsHonest new → IsHonest old
  pub failures : failures_of old ≤ failures_of new
  pub written : written_of old ≤ written_of new
  pub mutations : mutations_of old ≤ mutations_of new

-- how reading fails: a device fault is reported where the device failed, and an honest store reports no clash
pub record FailsAsRead {S A : Type 0} (failures_of : S → ℕ) (IsHonest : S → Type 0) (old new : S)
    (answer : Result A StoreFault) : Type 0 where
  pub device : IsErrOf answer Device → failures_of old < failures_of new
  pub clash : IsHonest new → answer ≢ Err Clash

-- the path was to be made these bytes, and this was answered; a loss of power may leave what it might leave before,
-- with that or without
pub record IsPut {S : Type 0} (files_of : S → Files) (MayBe : S → Files → Type 0)
    (failures_of written_of mutations_of : S → ℕ) (IsHonest : S → Type 0) (path bytes : List ℕ) (old new : S)
    (answer : Result (Unit {0}) StoreFault) : Type 0 where
  pub kept :
      IsHonest old
      → MatchResult answer (λ done. ¬ (Clashes (files_of old) path) → IsHonest new)
      (λ fault. fault ≡ Clash → Clashes (files_of old) path → IsHonest new)
  pub ok : IsHonest new → OnOk answer (Puts path bytes (files_of old) (files_of new))
  pub err : IsHonest new → IfErr answer (λ fault. PutFails fault path bytes (files_of old) (files_of new))
  pub may : (left : Files) → MayBe new left
      → MayBe old left ⊎ ((kept : Files) × MayBe old kept × (left ≡ insert kept path bytes))
  pub device : IsErrOf answer Device → failures_of old < failures_of new
  pub written : written_of new ≡ written_of old + counted path bytes
  pub mutations : mutations_of new ≡ mutations_of old + 1

-- the path's file was to be removed, and this was answered; a loss of power may leave what it might leave before, with
-- that or without
pub record IsRemoval {S : Type 0} (files_of : S → Files) (MayBe : S → Files → Type 0)
    (failures_of written_of mutations_of : S → ℕ) (IsHonest : S → Type 0) (path : List ℕ) (old new : S)
    (answer : Result (Unit {0}) StoreFault) : Type 0 where
  pub kept : IsHonest old → OnOk answer (IsHonest new)
  pub ok : IsHonest new → OnOk answer (files_of new ≡ remove (files_of old) path)
  pub err : IsHonest new → IfErr answer (λ fault. RemoveFails fault path (files_of old) (files_of new))
  pub may : (left : Files) → MayBe new left
      → MayBe old left ⊎ ((kept : Files) × MayBe old kept × (left ≡ remove kept path))
  pub device : IsErrOf answer Device → failures_of old < failures_of new
  pub written : written_of new ≡ written_of old
  pub mutations : mutations_of new ≡ mutations_of old + 1

-- a barrier was asked for over the paths of these changes, and this was answered: where it succeeded they are certain,
-- and the journal
pub record IsBarrier {S : Type 0} (files_of : S → Files) (MayBe : S → Files → Type 0) (IsHonest : S → Type 0)
    (changes : List Change) (old new : S) (answer : Result (Unit {0}) StoreFault) : Type 0 where
  pub kept : IsHonest old → answer ≢ Err Clash → IsHonest new
  pub ok : OnOk answer
      ((left : Files) → MayBe new left
      → (kept : Files) × MayBe old kept × DurableAfterBarrier changes (files_of new) kept left)

-- the path was to hold these parts joined, or no file, and this was answered
abbrev pub IsWrite : {S : Type 0} → (S → Files) → (S → Files → Type 0) → (S → ℕ) → (S → ℕ) → (S → ℕ) → (S → Type 0)
    → List ℕ → Option Pieces → S → S → Result (Unit {0}) StoreFault → Type 0
IsWrite files_of MayBe failures_of written_of mutations_of IsHonest path None old new answer =
    IsRemoval files_of MayBe failures_of written_of mutations_of IsHonest path old new answer
    × IsLater failures_of written_of mutations_of IsHonest old new
IsWrite files_of MayBe failures_of written_of mutations_of IsHonest path (Some parts) old new answer =
    IsPut files_of MayBe failures_of written_of mutations_of IsHonest path (joined parts) old new answer
    × IsLater failures_of written_of mutations_of IsHonest old new

-- each path was to hold what it is given, one after the other, up to the first write that failed, and this was answered
abbrev pub AreWrites : {S : Type 0} → (S → Files) → (S → Files → Type 0) → (S → ℕ) → (S → ℕ) → (S → ℕ) → (S → Type 0)
    → List FileWrite → S → S → Result (Unit {0}) StoreFault → Type 0
AreWrites files_of MayBe failures_of written_of mutations_of IsHonest [] old new answer = (new ≡ old) × (answer ≡ Ok tt)
AreWrites files_of MayBe failures_of written_of mutations_of IsHonest (write ∷ writes) old new answer =
    (IsWrite files_of MayBe failures_of written_of mutations_of IsHonest write.path.now write.file old new answer
    × (fault : StoreFault) × (answer ≡ Err fault))
    ⊎ ((mid : _)
    × IsWrite files_of MayBe failures_of written_of mutations_of IsHonest write.path.now write.file old mid (Ok tt)
    × AreWrites files_of MayBe failures_of written_of mutations_of IsHonest writes mid new answer)
