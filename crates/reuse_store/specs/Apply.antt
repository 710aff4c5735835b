-- What one change makes of a store, there and back, and why that stops.
use Rattle.std.specs.Prelude.{◌≡◌, ◌⊎◌, ℕ, ◌<◌, Bool, true, false, List, Option, Some, None}
use Rattle.std.specs.FinMap.{get}
use Rattle.reuse_change.specs.Files.{Files}
use Rattle.reuse_store.specs.Asked.{OnlyReads}
use Rattle.reuse_change.specs.Parts.{joined}
use Rattle.reuse_change.specs.declared.parts.Pieces.{Pieces}
use Rattle.reuse_change.specs.Change.{path_of, IsBeforeByRange, IsAfterByRange}
use Rattle.reuse_change.specs.Entry.{opposite, IsReady, LeadsByOneChange}
use Rattle.reuse_store.specs.declared.store.Store.{Ghosts}
use Rattle.reuse_change.specs.declared.change.Change.{Change}
use Rattle.reuse_change.specs.declared.direction.Direction.{Direction}
use Rattle.reuse_change.specs.declared.direction.Direction.TheVariants.{Forward, Backward}
use Rattle.reuse_store.specs.declared.fault.StoreFault.{StoreFault}
use Rattle.reuse_store.specs.declared.fault.StoreFault.TheVariants as faults
use Rattle.reuse_store.specs.declared.cause.Cause.{Cause}
use Rattle.reuse_store.specs.declared.cause.Cause.TheVariants as causes

-- the file of three parts, if there is one
abbrev pub held_in : Option Pieces → Option (List ℕ)
held_in None = None
held_in (Some parts) = Some (joined parts)

-- by range and length alone, the change can be gone through this way where its path holds this
abbrev pub IsReadyByRange : Direction → Change → Option (List ℕ) → Type 0
IsReadyByRange Forward change file = IsBeforeByRange change file
IsReadyByRange Backward change file = IsAfterByRange change file

-- a store's fault as a cause
abbrev pub cause_of : StoreFault → Cause
cause_of faults.Device = causes.Device
cause_of faults.Clash = causes.Clash
cause_of faults.Memory = causes.Memory

-- the change was not made, or is rolled back
abbrev pub IsChangeRolledBack : Direction → Change → Files → Files → Type 0
IsChangeRolledBack direction change before after =
    (IsReady direction change (get before (path_of change)) × (after ≡ before))
    ⊎ LeadsByOneChange (opposite direction) change before after

-- a call notes that puts and removals have started exactly where it asks for one, if that wasn't noted before
pub record NotesMutations {S : Type 0} (store : Ghosts S) (noted notes : Bool) (old new : S) : Type 0 where
  pub still : notes ≡ false → (noted ≡ false) × OnlyReads store old new
  pub begun : noted ≡ false → notes ≡ true → store.mutations old < store.mutations new
