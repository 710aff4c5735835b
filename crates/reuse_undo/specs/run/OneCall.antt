-- How a request is carried out on a folder: once, and of a call that failed before once more.
use Rattle.std.specs.Prelude.{◌≡◌, ◌⊎◌, ◌≤◌, ℕ, Bool, true, false, [], Result, Ok, Err}
use Rattle.reuse_store.specs.Asked.{OnlyReads}
use Rattle.reuse_store.specs.declared.store.Store.{Ghosts}
use Rattle.reuse_command.specs.declared.reply.Refusal.{Refusal}
use Rattle.reuse_command.specs.declared.reply.Refusal.TheVariants as refusals
use Rattle.reuse_command.specs.declared.request.Request.{Request}
use Rattle.reuse_command.specs.declared.request.Request.TheVariants as requests
use Rattle.reuse_journal.specs.Journal.{State}
use Rattle.reuse_journal.specs.CommittedState.{IsCommittedState}
use Rattle.reuse_journal.specs.Opening.{OpensOn}
use Rattle.reuse_arguments.specs.declared.line.PrintOptions.{PrintOptions}
use Rattle.reuse_disk.specs.declared.syncs.Unsynced.{Unsynced}
use Rattle.reuse_print.specs.declared.fault.Fault.{Fault}
use Rattle.reuse_print.specs.declared.fault.Fault.TheVariants as faults
use Rattle.reuse_print.specs.declared.output.Sink as sinks
use Rattle.reuse_report.specs.declared.access_refusal.AccessRefusal.{AccessRefusal}
use Rattle.reuse_undo.specs.run.FoundNames.{ListsNames}
use Rattle.reuse_undo.specs.run.RunLine.{IsUnopened}
use Rattle.reuse_undo.specs.run.RunResult.{CarriesOut}

-- the store was only read, and all that a barrier is to make durable is noted as before
abbrev pub Stays : {S : Type 0} → Ghosts S → (noted : S → Unsynced) → (old new : S) → Type 0
Stays store noted old new = OnlyReads store old new × (noted new ≡ noted old)

-- ---- one request

-- the request was carried out on the store, and its answer reported; or the list of the names that it finds
abbrev pub Answers : {S O : Type 0} → Ghosts S → sinks.Ghosts O → (lists_names : Bool) → Request → PrintOptions
    → S → S → O → O → Result ℕ Fault → Type 0
Answers store sink true request options old new before after outcome =
    ListsNames store sink.contents sink.failed request options old new before after outcome
Answers store sink false request options old new before after outcome =
    CarriesOut store sink.contents sink.failed request options old new before after outcome

-- So it was, once, and before and after it the store stayed. All that is printed is the answer: the output took
-- nothing before.
pub record AnswersOnce {S O : Type 0} (store : Ghosts S) (sink : sinks.Ghosts O) (noted : S → Unsynced)
    (lists_names : Bool) (request : Request) (options : PrintOptions) (old new : S)
    (outcome : Result ℕ Fault) : Type 0 where
  pub begun : S
  pub left : S
  pub before : O
  pub after : O
  pub goes : Stays store noted old begun
  pub nothing : sink.contents before ≡ []
  pub whole : sink.failed before ≡ false
  pub answers : Answers store sink lists_names request options begun left before after outcome
  pub comes_back : Stays store noted left new

-- ---- a call that is held

-- the store or memory failed
abbrev pub is_failure : Result ℕ Fault → Bool
is_failure (Err (faults.Refused (refusals.Failed failure))) = true
is_failure outcome = false

-- A session was opened, or refused, and only read. So where nothing is pending the store was only read.
pub record LooksAt {S : Type 0} (store : Ghosts S) (old new : S) : Type 0 where
  pub opens : store.honest new → ((held : State) × OpensOn (store.files old) held (store.files new))
      ⊎ ((refusal : Refusal) × IsUnopened (store.files old) refusal (store.files new))
  pub reads_only : store.honest new → (held : State) → IsCommittedState (store.files old) held
      → OnlyReads store old new
  pub failures : store.failures old ≤ store.failures new
  pub was_honest : store.honest new → store.honest old

-- so it was, and then it was seen which files can be written: all that a barrier is to make durable stayed noted
abbrev pub LooksThenSees : {S : Type 0} → Ghosts S → (noted : S → Unsynced) → S → S → Type 0
LooksThenSees {S = S} store noted old new = (looked : S) × LooksAt store old looked × (noted new ≡ noted looked)

-- the store stayed, and then it may have been looked at so
abbrev pub StaysThenLooks : {S : Type 0} → Ghosts S → (noted : S → Unsynced) → S → S → Type 0
StaysThenLooks {S = S} store noted old new =
    (seen : S) × Stays store noted old seen × ((new ≡ seen) ⊎ LooksAt store seen new)

-- it was carried out, or it wasn't begun
abbrev pub IsEndedBy : {S : Type 0} → Ghosts S → (Once : S → S → Result ℕ Fault → Type 0) → (noted : S → Unsynced)
    → S → S → Result (Result ℕ Fault) AccessRefusal → Type 0
IsEndedBy store Once noted old new (Ok outcome) = Once old new outcome
IsEndedBy store Once noted old new (Err access_refusal) = Stays store noted old new

-- A call was tried, and failed. Then it was looked at what it would change, and it was made, or it wasn't begun.
pub record IsHeld {S : Type 0} (store : Ghosts S) (Once : S → S → Result ℕ Fault → Type 0) (noted : S → Unsynced)
    (old new : S) (ending : Result (Result ℕ Fault) AccessRefusal) : Type 0 where
  pub tried : S
  pub looked : S
  pub outcome : Result ℕ Fault
  pub tries : Once old tried outcome
  pub failed : is_failure outcome ≡ true
  pub looks : LooksThenSees store noted tried looked
  pub ends : IsEndedBy store Once noted looked new ending

-- a call was made once; if it failed, the second try counts
abbrev pub MakesOnce : {S : Type 0} → Ghosts S → (Once : S → S → Result ℕ Fault → Type 0) → (noted : S → Unsynced)
    → S → S → Result (Result ℕ Fault) AccessRefusal → Type 0
MakesOnce store Once noted old new ending =
    ((outcome : Result ℕ Fault) × (ending ≡ Ok outcome) × Once old new outcome)
    ⊎ IsHeld store Once noted old new ending

-- so it was, or another request was carried out once
abbrev pub EndsOnce : {S : Type 0} → Ghosts S → (Once : S → S → Result ℕ Fault → Type 0) → (noted : S → Unsynced)
    → Request → S → S → Result (Result ℕ Fault) AccessRefusal → Type 0
EndsOnce store Once noted (requests.Make call when) old new ending = MakesOnce store Once noted old new ending
EndsOnce store Once noted request old new ending =
    (outcome : Result ℕ Fault) × (ending ≡ Ok outcome) × Once old new outcome
