-- Which faults making a diff gives.
use Rattle.std.specs.Prelude.{◌≡◌, ◌≢◌, ◌<◌, Result, Err}
use Rattle.reuse_command.specs.declared.failure.Fault.TheVariants as stores
use Rattle.reuse_store.specs.declared.store.Store.{Ghosts}
use Rattle.reuse_command.specs.Answer.{IsEarlyFailure}
use Rattle.reuse_command.specs.declared.reply.Refusal.{Refusal}
use Rattle.reuse_command.specs.declared.failure.Failure.TheVariants.{Fault as StoreFailed}
use Rattle.reuse_command.specs.declared.reply.Refusal.TheVariants.{Failed}
use Rattle.reuse_print.specs.declared.fault.Fault.{Fault}
use Rattle.reuse_print.specs.declared.fault.Fault.TheVariants.{NoDiff, Memory}

-- what was to be drawn can't be read: a device fault is reported where the device failed, an honest store reports no
-- clash, and of an honest store nothing is reported but an early failure
pub record IsUndrawn {S : Type 0} (store : Ghosts S) (old new : S) (refusal : Refusal) : Type 0 where
  pub device : refusal ≡ Failed (StoreFailed stores.Device) → store.failures old < store.failures new
  pub clash : store.honest new → refusal ≢ Failed (StoreFailed stores.Clash)
  pub kind : store.honest new → IsEarlyFailure refusal

-- a fault that comes in making a diff
abbrev pub IsOfDiff : {S : Type 0} → Ghosts S → S → S → Fault → Type 0
IsOfDiff store old new (NoDiff refusal) = IsUndrawn store old new refusal
IsOfDiff store old new Memory = Unit {0}
IsOfDiff store old new fault = ⊥

-- a diff that can't be made
abbrev pub IfNoDiff : {T : Type 0} → Result T Fault → (Refusal → Type 0) → Type 0
IfNoDiff (Err (NoDiff refusal)) Claim = Claim refusal
IfNoDiff result Claim = Unit {0}
