-- What kind of refusal an answer is, and when each may come.
use Rattle.std.specs.Prelude.{◌≡◌, ◌≢◌, ℕ, ◌<◌, Bool, false, List, [], ◌∷◌, None, Result, Ok, Err}
use Rattle.reuse_store.specs.declared.store.Store.{Ghosts}
use Rattle.reuse_command.specs.declared.reply.Recovered.{Recovered}
use Rattle.reuse_command.specs.declared.reply.Response.{Response}
use Rattle.reuse_command.specs.declared.reply.Response.TheVariants.{Changed, NothingChanged}
use Rattle.reuse_command.specs.declared.failure.Failure.TheVariants.{Interrupted, Fault, Memory}
use Rattle.reuse_command.specs.declared.failure.Fault.TheVariants as faults
use Rattle.reuse_command.specs.declared.reply.Refusal.{Refusal}
use Rattle.reuse_command.specs.declared.reply.Refusal.TheVariants.{Broken, JournalFull, NothingToUndo, NothingToRedo}
use Rattle.reuse_command.specs.declared.reply.Refusal.TheVariants.{NoSuchStep, Moved, BadJournal, Failed}
use Rattle.reuse_store.specs.declared.cause.Cause.{Cause}
use Rattle.reuse_store.specs.declared.cause.Cause.TheVariants as causes
use Rattle.reuse_json.specs.declared.fault.DecodeFault.{DecodeFault}
use Rattle.reuse_json.specs.declared.fault.DecodeFault.TheVariants as decoding

-- ---- failures

-- the call failed
abbrev pub IsFailure : Refusal → Type 0
IsFailure (Failed failure) = Unit {0}
IsFailure refusal = ⊥

-- the refusal is no failure
abbrev pub IsNoFailure : Refusal → Type 0
IsNoFailure (Failed failure) = ⊥
IsNoFailure refusal = Unit {0}

-- it failed before a step was pending
abbrev pub IsEarlyFailure : Refusal → Type 0
IsEarlyFailure (Failed Memory) = Unit {0}
IsEarlyFailure (Failed (Fault fault)) = Unit {0}
IsEarlyFailure refusal = ⊥

-- it failed later: the call stopped
abbrev pub IsStop : Refusal → Type 0
IsStop (Failed (Interrupted cause)) = Unit {0}
IsStop refusal = ⊥

-- it was refused or failed before a step was pending
abbrev pub IsEarly : Refusal → Type 0
IsEarly (Failed (Interrupted cause)) = ⊥
IsEarly refusal = Unit {0}

-- the answer is no failure
abbrev pub DidNotFail : {A : Type 0} → Result A Refusal → Type 0
DidNotFail (Err (Failed failure)) = ⊥
DidNotFail answer = Unit {0}

-- memory didn't run out
abbrev pub IsNoWantOfMemory : {A : Type 0} → Result A Refusal → Type 0
IsNoWantOfMemory (Err (Failed Memory)) = ⊥
IsNoWantOfMemory (Err (Failed (Interrupted causes.Memory))) = ⊥
IsNoWantOfMemory answer = Unit {0}

-- where a device fault is reported, the store's failures rose
abbrev pub HasCause : Type 0 → Refusal → Type 0
HasCause rose (Failed (Fault faults.Device)) = rose
HasCause rose (Failed (Interrupted causes.Device)) = rose
HasCause rose refusal = Unit {0}

-- a clash that is reported is that of the path that is put: of the entry before the step is pending, and of the head
-- from then on; and no stop reports that a file has changed since it was read
abbrev pub HasClash : (entry head : Type 0) → Refusal → Type 0
HasClash entry head (Failed (Fault faults.Clash)) = entry
HasClash entry head (Failed (Interrupted causes.Clash)) = head
HasClash entry head (Failed (Interrupted causes.Moved)) = ⊥
HasClash entry head refusal = Unit {0}

-- no clash is reported, nor that a file has changed since it was read
abbrev pub IsNoClash : Refusal → Type 0
IsNoClash refusal = HasClash ⊥ ⊥ refusal

-- how what was asked of a store by readings alone fails: a device fault is reported where the device failed, and an
-- honest store reports no clash
pub record RefusedAsRead {S A : Type 0} (store : Ghosts S) (old new : S) (answer : Result A Refusal) : Type 0 where
  pub device : answer ≡ Err (Failed (Fault faults.Device)) → store.failures old < store.failures new
  pub clash : store.honest new → answer ≢ Err (Failed (Fault faults.Clash))

-- ---- what each call may answer

-- of a recovery where no step was pending
abbrev pub nothing_recovered : Recovered
nothing_recovered = record { number = None; changed = []; skipped = [] }

-- no step is made, and none was begun: nothing changes, or a refusal is no failure
abbrev pub IsNoStep : Result Response Refusal → Type 0
IsNoStep (Ok (NothingChanged left)) = Unit {0}
IsNoStep (Ok reply) = ⊥
IsNoStep (Err refusal) = DidNotFail {A = Response} (Err refusal)

-- the refusals that planning a command can give
abbrev pub IsOfPlan : Refusal → Type 0
IsOfPlan Broken = ⊥
IsOfPlan JournalFull = ⊥
IsOfPlan NothingToUndo = ⊥
IsOfPlan NothingToRedo = ⊥
IsOfPlan (NoSuchStep number) = ⊥
IsOfPlan (BadJournal path) = ⊥
IsOfPlan (Failed (Interrupted cause)) = ⊥
IsOfPlan refusal = Unit {0}

-- what a run can answer: some paths that changed, or that none would; or a refusal that is not of another call
abbrev pub IsRunAnswer : Result Response Refusal → Type 0
IsRunAnswer (Ok (NothingChanged left)) = Unit {0}
IsRunAnswer (Ok (Changed (path ∷ paths) left)) = Unit {0}
IsRunAnswer (Ok reply) = ⊥
IsRunAnswer (Err NothingToUndo) = ⊥
IsRunAnswer (Err NothingToRedo) = ⊥
IsRunAnswer (Err (NoSuchStep number)) = ⊥
IsRunAnswer (Err (BadJournal path)) = ⊥
IsRunAnswer (Err refusal) = Unit {0}

-- a run leaves no path
abbrev pub LeavesNone : Result Response Refusal → Type 0
LeavesNone (Ok (NothingChanged left)) = left ≡ []
LeavesNone (Ok (Changed paths left)) = left ≡ []
LeavesNone answer = Unit {0}

-- the refusals of the test before an undo or a redo
abbrev pub IsTestRefusal : Refusal → Type 0
IsTestRefusal (Moved path) = Unit {0}
IsTestRefusal refusal = IsEarlyFailure refusal

-- the refusals of reading a text of the journal
abbrev pub IsReadRefusal : Refusal → Type 0
IsReadRefusal (BadJournal path) = Unit {0}
IsReadRefusal refusal = IsEarlyFailure refusal

-- the refusal of a text of the journal that can't be read
abbrev pub bad_text : List ℕ → DecodeFault → Refusal
bad_text path decoding.NotGood = BadJournal path
bad_text path decoding.Memory = Failed Memory

-- the refusals of rolling a step back
abbrev pub IsRollBackRefusal : Refusal → Type 0
IsRollBackRefusal (Moved path) = Unit {0}
IsRollBackRefusal refusal = IsFailure refusal

-- what rolling back reports of a cause: once a put or a removal has started it stops, and before that the call fails
-- early; a file that has changed since it was read is reported as a stop
abbrev pub reported_of : Bool → Cause → Refusal
reported_of false causes.Device = Failed (Fault faults.Device)
reported_of false causes.Clash = Failed (Fault faults.Clash)
reported_of false causes.Memory = Failed Memory
reported_of started cause = Failed (Interrupted cause)

-- the refusals of opening, and of a step of an entry that is listed
abbrev pub IsOpenRefusal : Refusal → Type 0
IsOpenRefusal (BadJournal path) = Unit {0}
IsOpenRefusal refusal = IsRollBackRefusal refusal

-- the refusals of a log
abbrev pub IsBrokenOrMemory : Refusal → Type 0
IsBrokenOrMemory Broken = Unit {0}
IsBrokenOrMemory (Failed Memory) = Unit {0}
IsBrokenOrMemory refusal = ⊥
