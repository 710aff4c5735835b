-- What finding and listing the names without a comment style answers and leaves, on a store and what the list is
-- written to.
use Rattle.std.specs.Prelude.{◌≡◌, ◌<◌, ◌≤◌, ℕ, Bool, true, false, List, [], Result, Ok, Err, IfErr}
use Rattle.std.specs.declared.vec.Vec.{Vec}
use Rattle.reuse_store.specs.Asked.{OnlyReads}
use Rattle.reuse_store.specs.declared.store.Store.{Ghosts}
use Rattle.reuse_command.specs.Answer.{HasCause}
use Rattle.reuse_command.specs.declared.reply.Refusal.{Refusal}
use Rattle.reuse_command.specs.declared.reply.Response.{Response}
use Rattle.reuse_command.specs.declared.reply.Response.TheVariants.{Preview}
use Rattle.reuse_command.specs.declared.request.Request.{Request}
use Rattle.reuse_journal.specs.Journal.{State}
use Rattle.reuse_journal.specs.CommittedState.{IsCommittedState}
use Rattle.reuse_session.specs.session.Requests.{IsReading}
use Rattle.reuse_session.specs.session.Stops.{RunState, CrashStatesWithin}
use Rattle.reuse_ready.specs.declared.name_count.NameCount.{NameCount}
use Rattle.reuse_arguments.specs.declared.line.OutputFormat.{OutputFormat}
use Rattle.reuse_arguments.specs.declared.line.OutputFormat.TheVariants.{Json}
use Rattle.reuse_arguments.specs.declared.line.PrintOptions.{PrintOptions}
use Rattle.reuse_print.specs.FoundNames.{IsFound, ReportsNames, TellsFailure, names_found, names_text}
use Rattle.reuse_print.specs.declared.fault.Fault.{Fault}
use Rattle.reuse_print.specs.declared.fault.Fault.TheVariants as faults
use Rattle.reuse_undo.specs.run.AfterStops.{AnswersAfterStop}
use Rattle.reuse_undo.specs.run.RunLine.{RequestLeaves}

-- the names by the answer to a preview
abbrev pub names_answered : Result Response Refusal → Result (List NameCount) Refusal
names_answered (Ok (Preview path_outcomes)) = names_found path_outcomes
names_answered (Ok response) = Ok []
names_answered (Err refusal) = Err refusal

-- The store went from `old` to `new`, and these names were found.
pub record FindsNames {S A : Type 0} (store : Ghosts S) (request : Request) (old new : S)
    (found : Result (Vec NameCount A) Refusal) : Type 0 where
  -- from any files, where the store is honest: the names are those of the answer to the request, and the files are as
  -- that leaves them
  pub exact : store.honest new → (answer : Result Response Refusal)
      × RequestLeaves (store.files old) request answer (store.files new) × IsFound (names_answered answer) found
  -- From files of which a loss of power may leave no more than what is reported of one point of a run of the model with
  -- stops, to files of which that holds of the point after the request.
  pub survives : store.honest new → (start : RunState)
      → CrashStatesWithin store old start.state start.next start.forgetting
      → (end : RunState) × (answer : Result Response Refusal) × AnswersAfterStop request answer start end
      × IsFound (names_answered answer) found × CrashStatesWithin store new end.state end.next end.forgetting
  -- what only asks only reads the store, where nothing is pending
  pub reads_only : store.honest new → IsReading request → (held : State) → IsCommittedState (store.files old) held
      → OnlyReads store old new
  -- a fault has its cause
  pub fault : (answer : Result Response Refusal) × IsFound (names_answered answer) found
      × IfErr answer (HasCause (store.failures old < store.failures new))
  pub failures : store.failures old ≤ store.failures new
  pub was_honest : store.honest new → store.honest old

-- ---- the list

abbrev pub is_json : OutputFormat → Bool
is_json Json = true
is_json format = false

-- the text of names: objects, or lines
abbrev pub text_of_names : PrintOptions → List NameCount → List ℕ
text_of_names options rows = names_text (is_json options.format) options.names rows

-- The store went from `old` to `new`, what the list is written to from `before` to `after`, and this is reported.
pub record ListsNames {S O : Type 0} (store : Ghosts S) (contents : O → List ℕ) (has_failed : O → Bool)
    (request : Request) (options : PrintOptions) (old new : S) (before after : O)
    (result : Result ℕ Fault) : Type 0 where
  pub exact : store.honest new → (answer : Result Response Refusal)
      × RequestLeaves (store.files old) request answer (store.files new)
      × ReportsNames (text_of_names options) (names_answered answer) (contents before) (contents after) result
  pub survives : store.honest new → (start : RunState)
      → CrashStatesWithin store old start.state start.next start.forgetting
      → (end : RunState) × (answer : Result Response Refusal) × AnswersAfterStop request answer start end
      × ReportsNames (text_of_names options) (names_answered answer) (contents before) (contents after) result
      × CrashStatesWithin store new end.state end.next end.forgetting
  pub reads_only : store.honest new → IsReading request → (held : State) → IsCommittedState (store.files old) held
      → OnlyReads store old new
  -- a refusal is reported before anything is written, and that the list couldn't be written exactly where the output
  -- failed
  pub quiet : (refusal : Refusal) → result ≡ Err (faults.Refused refusal) → after ≡ before
  pub failed : TellsFailure (has_failed before) (has_failed after) result
  pub fault : (answer : Result Response Refusal)
      × ReportsNames (text_of_names options) (names_answered answer) (contents before) (contents after) result
      × IfErr answer (HasCause (store.failures old < store.failures new))
  pub failures : store.failures old ≤ store.failures new
  pub was_honest : store.honest new → store.honest old
