-- The calls of a store with their answers.
use Rattle.std.specs.Prelude.{ℕ, zero, suc, ◌+◌, Bool, false, List, [], ◌∷◌, length, Result, Ok, Err}
use Rattle.reuse_change.specs.Files.{Files}
use Rattle.reuse_store.specs.Store.{counted}
use Rattle.reuse_change.specs.declared.change.Change.{Change}
use Rattle.reuse_store.specs.declared.fault.StoreFault.{StoreFault}
use Rattle.reuse_store.specs.declared.fault.StoreFault.TheVariants.{Device, Clash, Memory}
use Rattle.reuse_store.specs.declared.store.Reading.{Reading}

-- a call of a store and what it answered; `pruned` has the folders that a listing was to pass over, and `took` reports
-- a put or a
-- removal that failed whether it took effect
pub data Call : Type 0 where
  ListCall : (folders pruned : List (List ℕ)) (answer : Result (List (List ℕ)) StoreFault) → Call
  ReadCall : (path : List ℕ) (limit : ℕ) (answer : Result Reading StoreFault) → Call
  PutCall : (path bytes : List ℕ) (answer : Result (Unit {0}) StoreFault) (took : Bool) → Call
  RemoveCall : (path : List ℕ) (answer : Result (Unit {0}) StoreFault) (took : Bool) → Call
  SyncCall : (changes : List Change) (answer : Result (Unit {0}) StoreFault) → Call

-- what nobody can know of a store at its start: its files; what else a loss of power might leave then, since it has
-- lost nothing that
-- others wrote; and of each call that is to come whether it takes effect if it is a put or a removal that fails; a call
-- behind the end
-- of the list doesn't
pub record Start : Type 0 where
  pub files : Files
  pub initial_crash_states : List Files
  pub effects : List Bool

abbrev effect_at : List Bool → ℕ → Bool
effect_at [] n = false
effect_at (effect ∷ effects) zero = effect
effect_at (effect ∷ effects) (suc n) = effect_at effects n

-- the effect of the call that comes after these
abbrev pub took_effect : List Bool → List Call → Bool
took_effect effects calls = effect_at effects (length calls)

-- one where the call answered a device fault
abbrev pub failure_of : {T : Type 0} → Result T StoreFault → ℕ
failure_of (Ok value) = 0
failure_of (Err Device) = 1
failure_of (Err Clash) = 0
failure_of (Err Memory) = 0

-- how often the device failed
abbrev pub failures_of : List Call → ℕ
failures_of [] = 0
failures_of (ListCall folders pruned answer ∷ calls) = failures_of calls + failure_of answer
failures_of (ReadCall path limit answer ∷ calls) = failures_of calls + failure_of answer
failures_of (PutCall path bytes answer took ∷ calls) = failures_of calls + failure_of answer
failures_of (RemoveCall path answer took ∷ calls) = failures_of calls + failure_of answer
failures_of (SyncCall changes answer ∷ calls) = failures_of calls + failure_of answer

-- how many bytes were handed to `put` for paths under `.reuse/undo/`
abbrev pub written_of : List Call → ℕ
written_of [] = 0
written_of (ListCall folders pruned answer ∷ calls) = written_of calls
written_of (ReadCall path limit answer ∷ calls) = written_of calls
written_of (PutCall path bytes answer took ∷ calls) = written_of calls + counted path bytes
written_of (RemoveCall path answer took ∷ calls) = written_of calls
written_of (SyncCall changes answer ∷ calls) = written_of calls

-- how many puts and removals there were
abbrev pub mutations_of : List Call → ℕ
mutations_of [] = 0
mutations_of (ListCall folders pruned answer ∷ calls) = mutations_of calls
mutations_of (ReadCall path limit answer ∷ calls) = mutations_of calls
mutations_of (PutCall path bytes answer took ∷ calls) = mutations_of calls + 1
mutations_of (RemoveCall path answer took ∷ calls) = mutations_of calls + 1
mutations_of (SyncCall changes answer ∷ calls) = mutations_of calls
