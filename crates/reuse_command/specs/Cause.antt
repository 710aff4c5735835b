-- Why a call failed that asked a store.
use Rattle.reuse_store.specs.declared.fault.StoreFault.{StoreFault}
use Rattle.reuse_store.specs.declared.fault.StoreFault.TheVariants as stores
use Rattle.reuse_command.specs.declared.failure.Failure.TheVariants as failures
use Rattle.reuse_command.specs.declared.failure.Fault.TheVariants as faults
use Rattle.reuse_command.specs.declared.reply.Refusal.{Refusal}
use Rattle.reuse_command.specs.declared.reply.Refusal.TheVariants.{Failed}

-- what a call of a store answered, as the failure of a call of the session
abbrev pub refusal_of : StoreFault → Refusal
refusal_of stores.Device = Failed (failures.Fault faults.Device)
refusal_of stores.Clash = Failed (failures.Fault faults.Clash)
refusal_of stores.Memory = Failed failures.Memory
