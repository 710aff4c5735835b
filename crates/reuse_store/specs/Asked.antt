-- What was asked of a store above its trait, over the record of the trait's members.
use Rattle.std.specs.Prelude.{◌≡◌, List, ℕ, Option, Result}
use Rattle.reuse_change.specs.declared.change.Change.{Change}
use Rattle.reuse_store.specs.declared.fault.StoreFault.{StoreFault}
use Rattle.reuse_store.specs.declared.file_write.FileWrite.{FileWrite}
use Rattle.reuse_change.specs.declared.parts.Pieces.{Pieces}
use Rattle.reuse_change.specs.Files.{Files}
use Rattle.reuse_store.specs.Durable.{WithOrWithout}
use Rattle.reuse_store.specs.declared.store.Store.{Ghosts}
use Rattle.reuse_store.specs.StoreLaws as laws

-- nothing but listings, readings and barriers
abbrev pub OnlyReads : {S : Type 0} → Ghosts S → S → S → Type 0
OnlyReads store old new =
    laws.OnlyReads store.files store.crash_states store.failures store.written store.mutations store.honest old new

-- any calls
abbrev pub IsLater : {S : Type 0} → Ghosts S → S → S → Type 0
IsLater store old new = laws.IsLater store.failures store.written store.mutations store.honest old new

-- how what was asked by readings alone fails
abbrev pub FailsAsRead : {S A : Type 0} → Ghosts S → S → S → Result A StoreFault → Type 0
FailsAsRead store old new answer = laws.FailsAsRead store.failures store.honest old new answer

-- one put
abbrev pub IsPut : {S : Type 0} → Ghosts S → List ℕ → List ℕ → S → S → Result (Unit {0}) StoreFault → Type 0
IsPut store path bytes old new answer =
    laws.IsPut store.files store.crash_states store.failures store.written store.mutations
    store.honest path bytes old new answer

-- one removal
abbrev pub IsRemoval : {S : Type 0} → Ghosts S → List ℕ → S → S → Result (Unit {0}) StoreFault → Type 0
IsRemoval store path old new answer = laws.IsRemoval store.files store.crash_states store.failures store.written
    store.mutations store.honest path old new answer

-- one write, which is a put or a removal
abbrev pub IsWrite : {S : Type 0} → Ghosts S → List ℕ → Option Pieces → S → S → Result (Unit {0}) StoreFault → Type 0
IsWrite store path file old new answer = laws.IsWrite store.files store.crash_states store.failures store.written
    store.mutations store.honest path file old new answer

-- writes, one after the other
abbrev pub AreWrites : {S : Type 0} → Ghosts S → List FileWrite → S → S → Result (Unit {0}) StoreFault → Type 0
AreWrites store writes old new answer = laws.AreWrites store.files store.crash_states store.failures store.written
    store.mutations store.honest writes old new answer

-- one barrier
abbrev pub IsBarrier : {S : Type 0} → Ghosts S → List Change → S → S → Result (Unit {0}) StoreFault → Type 0
IsBarrier store changes old new answer =
    laws.IsBarrier store.files store.crash_states store.honest changes old new answer

-- what a loss of power may leave is this
abbrev pub Leaves : {S : Type 0} → Ghosts S → S → (Files → Type 0) → Type 0
Leaves store new IsOne = (left : Files) → store.crash_states new left → IsOne left

-- it is what is there
abbrev pub IsSynced : {S : Type 0} → Ghosts S → S → Type 0
IsSynced store new = Leaves store new (λ left. left ≡ store.files new)

-- at most the path holds something else of what might be left before, and then one such file
abbrev pub MaySet : {S : Type 0} → Ghosts S → List ℕ → (Option (List ℕ) → Type 0) → S → S → Type 0
MaySet store path IsOne old new = Leaves store new (WithOrWithout (store.crash_states old) path IsOne)
