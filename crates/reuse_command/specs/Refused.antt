-- Refusals of what looks at a tree and calls no store.
use Rattle.std.specs.Prelude.{◌≡◌, Option, Some}
use Rattle.reuse_command.specs.Answer.{IsOfPlan}
use Rattle.reuse_command.specs.declared.reply.Refusal.{Refusal}
use Rattle.reuse_dep5.specs.declared.refusal.Dep5Refusal.{Dep5Refusal}
use Rattle.reuse_dep5.specs.declared.refusal.Dep5Refusal.TheVariants as dep5
use Rattle.reuse_command.specs.declared.failure.Failure.TheVariants.{Memory, Fault}
use Rattle.reuse_command.specs.declared.reply.Refusal.TheVariants.{Moved, Dep5, Failed}

-- the refusal is one of planning, and no fault of a store
abbrev pub IsNoFault : Refusal → Type 0
IsNoFault (Moved path) = ⊥
IsNoFault (Failed (Fault fault)) = ⊥
IsNoFault refusal = IsOfPlan refusal

-- a refusal is the one that is expected, unless memory ran out
abbrev pub IsRefused : Option Refusal → Refusal → Type 0
IsRefused expected (Failed Memory) = Unit {0}
IsRefused expected refusal = expected ≡ Some refusal

-- a refusal of the dep5 as one of the command
abbrev pub dep5_refusal : Dep5Refusal → Refusal
dep5_refusal dep5.Memory = Failed Memory
dep5_refusal refusal = Dep5 refusal
