-- Calls that only read a store: which fault they report, by the fault that the store reported.
use Rattle.std.proofs.Common.{◌≡◌, ◌<◌, List, ℕ, Result, Ok, Err, IfErr, IsErrAnd, refl, sym, subst, arith}
use Rattle.reuse_store.specs.Asked.{FailsAsRead, OnlyReads}
use Rattle.reuse_store.specs.declared.fault.StoreFault.{StoreFault}
use Rattle.reuse_store.specs.declared.fault.StoreFault.TheVariants as stores
use Rattle.reuse_store.specs.declared.store.Store.{Ghosts}
use Rattle.reuse_store.proofs.AskedLemmas.{reads_more, reads_none}
use Rattle.reuse_command.specs.Answer.{HasCause, IsNoClash, IsOfPlan, IsOpenRefusal, IsReadRefusal, RefusedAsRead}
use Rattle.reuse_command.specs.Answer.{IsEarlyFailure}
use Rattle.reuse_command.specs.Cause.{refusal_of}
use Rattle.reuse_command.specs.Reading.{ReadsAlone}
use Rattle.reuse_command.specs.Refused.{IsNoFault}
use Rattle.reuse_command.specs.declared.reply.Refusal.{Refusal}
use Rattle.reuse_command.specs.declared.failure.Failure.TheVariants.{Fault, Interrupted, Memory}
use Rattle.reuse_command.specs.declared.failure.Fault.TheVariants as faults
use Rattle.reuse_command.specs.declared.reply.Refusal.TheVariants.{BadJournal, Moved, Failed}
use Rattle.reuse_command.proofs.OnlyReading.{passed_on}

-- the answer reports no fault of the store
abbrev pub IsOther : {A : Type 0} → Result A Refusal → Type 0
IsOther (Err (Failed (Fault fault))) = ⊥
IsOther answer = Unit {0}

pub fails_otherwise : {S A : Type 0} (store : Ghosts S) (old new : S) (answer : Result A Refusal) → IsOther answer
    → RefusedAsRead store old new answer
fails_otherwise {S} {A} store old new answer other =
    let P : Result A Refusal → Type 0 = IsOther {A = A} in
    record { device = λ e. absurd (subst P e other); clash = λ h e. subst P e other }

-- a fault of the store behind some readings
pub fails_behind : {S A B : Type 0} (store : Ghosts S) (old mid new : S) (fault : StoreFault)
    (answer : Result A Refusal) → answer ≡ Err (refusal_of fault) → OnlyReads store old mid
    → FailsAsRead {A = B} store mid new (Err fault) → RefusedAsRead store old new answer
fails_behind {S} {A} {B} store old mid new stores.Memory answer is before fails =
    subst (RefusedAsRead store old new) (sym is) (fails_otherwise store old new (Err (Failed Memory)) tt)
fails_behind {S} {A} {B} store old mid new stores.Device answer is before fails = subst (RefusedAsRead store old new)
    (sym is) (record { device = λ e. omega (arith, before.failures, fails.device refl); clash = λ h e. cc })
fails_behind {S} {A} {B} store old mid new stores.Clash answer is before fails = subst (RefusedAsRead store old new)
    (sym is) (record { device = λ e. absurd (cc); clash = λ h e. fails.clash h refl })

pub reported : {S A : Type 0} (store : Ghosts S) (MayBe : Refusal → Type 0) (old new : S) (answer : Result A Refusal)
    → IsOther answer → IfErr answer MayBe → OnlyReads store old new → ReadsAlone store MayBe old new answer
reported store MayBe old new answer other kinds reads = record {
  reads = reads;
  fails = fails_otherwise store old new answer other;
  kinds = kinds;
}

-- an allocation failure
pub short : {S A : Type 0} (store : Ghosts S) (MayBe : Refusal → Type 0) (old new : S) (answer : Result A Refusal)
    → answer ≡ Err (Failed Memory) → MayBe (Failed Memory) → OnlyReads store old new
    → ReadsAlone store MayBe old new answer
short {S} {A} store MayBe old new answer is may reads =
    subst (ReadsAlone store MayBe old new) (sym is) (reported store MayBe old new (Err (Failed Memory)) tt may reads)

-- a fault of the store, which may be reported
pub failed : {S A B : Type 0} (store : Ghosts S) (MayBe : Refusal → Type 0) (old new : S) (fault : StoreFault)
    (answer : Result A Refusal) → answer ≡ Err (refusal_of fault) → MayBe (refusal_of fault)
    → FailsAsRead {A = B} store old new (Err fault) → OnlyReads store old new → ReadsAlone store MayBe old new answer
failed {S} {A} {B} store MayBe old new fault answer is may fails reads = record {
  reads = reads;
  fails = fails_behind {B = B} store old old new fault answer is (reads_none store old) fails;
  kinds = subst (λ (r : Result A Refusal). IfErr r MayBe) (sym is) may;
}

-- an answer behind some readings
pub later : {S A : Type 0} (store : Ghosts S) (MayBe : Refusal → Type 0) (old mid new : S) (answer : Result A Refusal)
    → OnlyReads store old mid → ReadsAlone store MayBe mid new answer → ReadsAlone store MayBe old new answer
later store MayBe old mid new answer before asks = record {
  reads = reads_more store old mid new before asks.reads;
  fails = record { device = λ e. omega (arith, before.failures, asks.fails.device e); clash = asks.fails.clash };
  kinds = asks.kinds;
}

-- ---- of a plan

pub of_plan : (refusal : Refusal) → IsNoFault refusal → IsOfPlan refusal
of_plan (Moved path) is = absurd is
of_plan (Failed (Fault fault)) is = absurd is
of_plan refusal is = is

is_other : (A : Type 0) (refusal : Refusal) → IsNoFault refusal → IsOther {A = A} (Err refusal)
is_other A (Failed (Fault fault)) is = is
is_other A refusal is = tt

pub no_fault : {S A : Type 0} (store : Ghosts S) (old new : S) (answer : Result A Refusal) → IfErr answer IsNoFault
    → OnlyReads store old new → ReadsAlone store IsOfPlan old new answer
no_fault {S} {A} store old new (Ok done) is reads = reported store IsOfPlan old new (Ok done) tt tt reads
no_fault {S} {A} store old new (Err refusal) is reads =
    reported store IsOfPlan old new (Err refusal) (is_other A refusal is) (of_plan refusal is) reads

pub plan_faults : (fault : StoreFault) → IsOfPlan (refusal_of fault)
plan_faults stores.Device = tt
plan_faults stores.Clash = tt
plan_faults stores.Memory = tt

-- ---- of what only reads

pub look_faults : (fault : StoreFault) → IsEarlyFailure (refusal_of fault)
look_faults stores.Device = tt
look_faults stores.Clash = tt
look_faults stores.Memory = tt

-- ---- of the journal's files

pub memory_fails : {S A : Type 0} (store : Ghosts S) (old new : S) (answer : Result A Refusal)
    → answer ≡ Err (Failed Memory) → RefusedAsRead store old new answer
memory_fails store old new answer is =
    subst (RefusedAsRead store old new) (sym is) (fails_otherwise store old new (Err (Failed Memory)) tt)

-- a refusal that is passed on, behind some readings
pub same_fails : {S A B : Type 0} (store : Ghosts S) (old mid new : S) (given : Result B Refusal)
    (answer : Result A Refusal) (refusal : Refusal)
    → given ≡ Err refusal → IsErrAnd answer (λ reported. reported ≡ refusal) → OnlyReads store old mid
    → RefusedAsRead store mid new given → RefusedAsRead store old new answer
same_fails store old mid new given answer refusal was is reads fails = record {
  device = λ e. omega (arith, reads.failures, fails.device (passed_on answer given is was e));
  clash = λ h e. fails.clash h (passed_on answer given is was e);
}

pub ok_no_bad : {A : Type 0} (x : A) (path : List ℕ) → ◌≡◌ {A = Result A Refusal} (Ok x) (Err (BadJournal path)) → ⊥
ok_no_bad x path e = absurd (cc)

pub memory_no_bad : {A : Type 0} (answer : Result A Refusal) (path : List ℕ) → answer ≡ Err (Failed Memory)
    → answer ≡ Err (BadJournal path) → ⊥
memory_no_bad answer path is e = absurd (cc)

-- a refusal of reading, as one of opening
pub opening_too : (refusal : Refusal) → IsReadRefusal refusal → IsOpenRefusal refusal
opening_too (BadJournal path) is = tt
opening_too (Moved path) is = tt
opening_too (Failed (Interrupted cause)) is = tt
opening_too refusal is = is

pub reading_cause : {A S : Type 0} (store : Ghosts S) (old new : S) (refusal : Refusal) → IsReadRefusal refusal
    → RefusedAsRead {A = A} store old new (Err refusal)
    → HasCause (store.failures old < store.failures new) refusal
reading_cause store old new (Failed (Fault faults.Device)) is fails = fails.device refl
reading_cause store old new (Failed (Interrupted cause)) is fails = absurd is
reading_cause store old new refusal is fails = tt

pub reading_no_clash : {A S : Type 0} (store : Ghosts S) (old new : S) (refusal : Refusal) → IsReadRefusal refusal
    → RefusedAsRead {A = A} store old new (Err refusal) → store.honest new → IsNoClash refusal
reading_no_clash store old new (Failed (Fault faults.Clash)) is fails honest = fails.clash honest refl
reading_no_clash store old new (Failed (Interrupted cause)) is fails honest = absurd is
reading_no_clash store old new refusal is fails honest = tt
