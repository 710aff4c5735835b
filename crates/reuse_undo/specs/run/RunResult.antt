-- What carrying out what a line asks for answers and leaves, on a store and what the answer is written to.
use Rattle.std.specs.Prelude.{◌≡◌, ◌<◌, ◌≤◌, ℕ, Bool, List, Result, IfOk}
use Rattle.reuse_store.specs.Asked.{IsSynced, OnlyReads}
use Rattle.reuse_change.specs.Files.{Files}
use Rattle.reuse_store.specs.declared.store.Store.{Ghosts}
use Rattle.reuse_command.specs.Answer.{HasCause}
use Rattle.reuse_journal.specs.Journal.{State}
use Rattle.reuse_session.specs.session.Found.{AllAreAtSome, IsAfterLoss}
use Rattle.reuse_session.specs.session.Machine.{Snapshots}
use Rattle.reuse_journal.specs.CommittedState.{IsCommittedState}
use Rattle.reuse_session.specs.session.Stops.{RunState, SimulatesInFiles, FilesAt, CrashStatesWithin}
use Rattle.reuse_undo.specs.run.AfterStops.{AnswersAfterStop}
use Rattle.reuse_report.specs.Drawn.{IsDrawnText}
use Rattle.reuse_undo.specs.run.DryRuns.{WouldLeave}
use Rattle.reuse_print.specs.Outputs.{AddsSome}
use Rattle.reuse_session.specs.session.Requests.{HasCallClash, IsReading}
use Rattle.reuse_undo.specs.run.RunLine.{RequestLeaves, FollowsModel, ReportsAnswer, IfRefused}
use Rattle.reuse_report.specs.Responses.{ReportsFailure}
use Rattle.reuse_report.specs.WriterFaults.{IfNoDiff, IsUndrawn}
use Rattle.reuse_print.specs.declared.fault.Fault.{Fault}
use Rattle.reuse_arguments.specs.declared.line.OutputFormat.TheVariants.{Diff}
use Rattle.reuse_arguments.specs.declared.line.PrintOptions.{PrintOptions}
use Rattle.reuse_command.specs.declared.request.Request.{Request}

-- The store went from `old` to `new`, what the answer is written to from `before` to `after`, and this is reported.
pub record CarriesOut {S O : Type 0} (store : Ghosts S) (contents : O → List ℕ) (has_failed : O → Bool)
    (request : Request) (options : PrintOptions) (old new : S) (before after : O)
    (result : Result ℕ Fault) : Type 0 where
  -- from any files, where the store is honest: what is reported is the answer to the request, and the files are as it
  -- left them
  pub exact : store.honest new → ReportsAnswer options
      (λ answer. RequestLeaves (store.files old) request answer (store.files new))
      (contents before) (contents after) result
  -- from any state that the files hold it is that of the model that keeps whole copies
  pub machine : store.honest new → (state : Snapshots) → SimulatesInFiles (store.files old) state
      → ReportsAnswer options
      (λ answer. FollowsModel state request answer (store.files new)) (contents before) (contents after) result
  -- From files that an earlier stop may have left in doubt too: what is reported is the answer of a run of the model
  -- with stops, and the files are left where that run is.
  pub after_stop : store.honest new → (start : RunState) → FilesAt (store.files old) start.state start.next
      → (end : RunState) × ReportsAnswer options
      (λ answer. AnswersAfterStop request answer start end) (contents before) (contents after) result
      × FilesAt (store.files new) end.state end.next
  -- So it is with all that a loss of power may leave: from files of which it may leave no more than what is reported of
  -- the point where the run with stops was, to files of which it may leave no more than what is reported of the point
  -- at its end.
  pub survives : store.honest new → (start : RunState)
      → CrashStatesWithin store old start.state start.next start.forgetting
      → (end : RunState) × ReportsAnswer options
      (λ answer. AnswersAfterStop request answer start end) (contents before) (contents after) result
      × CrashStatesWithin store new end.state end.next end.forgetting
  -- From files of which nothing else may be left, and that an earlier stop may have left in doubt: all that a loss of
  -- power may leave then is where the run of the model goes on after it.
  pub after_loss : store.honest new → (start : RunState) → FilesAt (store.files old) start.state start.next
      → IsSynced store old → ReportsAnswer options
      (λ answer. (end : RunState) × AnswersAfterStop request answer start end
      × AllAreAtSome store (IsAfterLoss answer start end) new) (contents before) (contents after) result
  -- where a dry run's diff is wanted it stands behind the lines: the diff of the tree as it is, and of that which the
  -- call would leave
  pub drawn : store.honest new → (held : State) → IsCommittedState (store.files old) held → options.format ≡ Diff
      → (tree : Files) → WouldLeave request held tree
      → IfOk result (λ count. AddsSome (contents before) (contents after) (IsDrawnText options.names held.tree tree))
  -- what only asks only reads the store, where nothing is pending
  pub reads_only : store.honest new → IsReading request → (held : State) → IsCommittedState (store.files old) held
      → OnlyReads store old new
  -- a refusal is reported before anything is written, and that the response couldn't be written exactly where the
  -- output failed
  pub quiet : IfRefused result (λ refusal. after ≡ before)
  pub failed : ReportsFailure (has_failed before) (has_failed after) result
  -- a fault has its cause; where nothing is pending, a clash is reported only where the path that the call puts clashes
  pub fault : IfRefused result (HasCause (store.failures old < store.failures new))
  pub clash : store.honest new → (held : State) → IsCommittedState (store.files old) held
      → IfRefused result (HasCallClash request held (store.files old))
  -- that a diff can't be made has its cause too, and is reported before anything is written
  pub undrawn : IfNoDiff result (λ refusal. IsUndrawn store old new refusal × (after ≡ before))
  pub failures : store.failures old ≤ store.failures new
  pub was_honest : store.honest new → store.honest old
