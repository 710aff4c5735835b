-- The texts that say why a call failed (docs/RULES.md, "Refusals").
use Rattle.std.specs.Prelude.{ℕ, List, codes}
use Rattle.reuse_command.specs.RefusalTexts.{refusal_text}
use Rattle.reuse_lock.specs.declared.fault.LockFault.{LockFault}
use Rattle.reuse_lock.specs.declared.fault.LockFault.TheVariants as locks
use Rattle.reuse_print.specs.declared.fault.Fault.{Fault}
use Rattle.reuse_print.specs.declared.fault.Fault.TheVariants.{Refused, WouldRefuse, NoDiff, InUse, Write, Memory}

-- why a call failed
abbrev pub fault_text : Fault → List ℕ
fault_text (Refused refusal) = refusal_text refusal
fault_text (WouldRefuse path_outcomes) = codes "would be refused"
fault_text (NoDiff refusal) = refusal_text refusal
fault_text InUse = codes "in use by another run"
fault_text Write = codes "write fault"
fault_text Memory = codes "out of memory"

-- why a call failed whose root can't be locked
abbrev pub fault_of_lock : LockFault → Fault
fault_of_lock locks.InUse = InUse
fault_of_lock locks.Memory = Memory
