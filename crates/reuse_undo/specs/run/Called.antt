-- What comes of a request on a store before its answer is printed, for private clauses.
use Rattle.std.specs.Prelude.{◌<◌, ◌≤◌, ℕ, Result, IfOk, IfErr}
use Rattle.std.specs.declared.vec.Vec.{Vec}
use Rattle.reuse_store.specs.Asked.{IsSynced, OnlyReads}
use Rattle.reuse_change.specs.Files.{Files}
use Rattle.reuse_store.specs.declared.store.Store.{Ghosts}
use Rattle.reuse_command.specs.Answer.{HasCause}
use Rattle.reuse_journal.specs.Journal.{State}
use Rattle.reuse_journal.specs.CommittedState.{IsCommittedState}
use Rattle.reuse_session.specs.session.Found.{AllAreAtSome, IsAfterLoss}
use Rattle.reuse_session.specs.session.Requests.{HasCallClash, IsReading}
use Rattle.reuse_session.specs.session.Stops.{RunState, CrashStatesWithin, FilesAt}
use Rattle.reuse_undo.specs.run.DryRuns.{IsDiffOfCall}
use Rattle.reuse_report.specs.Responses.{IsDiffOf, IsDrawnPreview}
use Rattle.reuse_report.specs.WriterFaults.{IfNoDiff, IsUndrawn}
use Rattle.reuse_command.specs.declared.reply.Refusal.{Refusal}
use Rattle.reuse_command.specs.declared.reply.Response.{Response}
use Rattle.reuse_command.specs.declared.request.Request.{Request}
use Rattle.reuse_print.specs.declared.fault.Fault.{Fault}
use Rattle.reuse_arguments.specs.declared.line.PrintOptions.{PrintOptions}

-- The store went from `old` to `new`, this was answered, and this is the diff of what would change. What is left of the
-- files, and how that goes on from an earlier stop, is said by the two relations.
pub record IsCalled {S A : Type 0} (store : Ghosts S)
    (Leaves : Files → Request → Result Response Refusal → Files → Type 0)
    (Answers : Request → Result Response Refusal → RunState → RunState → Type 0)
    (request : Request) (options : PrintOptions) (old new : S)
    (answer : Result Response Refusal) (diff : Result (Vec ℕ A) Fault) : Type 0 where
  pub carries : store.honest new → Leaves (store.files old) request answer (store.files new)
  pub survives : store.honest new → (start : RunState)
      → CrashStatesWithin store old start.state start.next start.forgetting
      → (end : RunState) × Answers request answer start end
      × CrashStatesWithin store new end.state end.next end.forgetting
  pub after_loss : store.honest new → (start : RunState) → FilesAt (store.files old) start.state start.next
      → IsSynced store old
      → (end : RunState) × Answers request answer start end × AllAreAtSome store (IsAfterLoss answer start end) new
  pub reads_only : store.honest new → IsReading request → (held : State) → IsCommittedState (store.files old) held
      → OnlyReads store old new
  pub fault : IfErr answer (HasCause (store.failures old < store.failures new))
  pub clash : store.honest new → (held : State) → IsCommittedState (store.files old) held
      → IfErr answer (HasCallClash request held (store.files old))
  pub diff_of : IfOk answer (λ response. IsDiffOf options response diff)
  pub drawn : store.honest new → (held : State) → IsCommittedState (store.files old) held
      → IfOk answer (λ response. IsDrawnPreview options response
      → IfOk diff (λ text. IsDiffOfCall request held text.items))
  pub undrawn : IfNoDiff diff (IsUndrawn store old new)
  pub failures : store.failures old ≤ store.failures new
  pub was_honest : store.honest new → store.honest old
