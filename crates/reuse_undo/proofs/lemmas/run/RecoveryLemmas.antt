-- What a recovery is answered and leaves, and that any other request is answered by a session.
use Rattle.std.proofs.Common.{◌≡◌, ◌≢◌, ◌∙◌, inl, ℕ, Bool, [], Result, Ok, Err, IfOk, IfErr, refl, ap, codes}
use Rattle.std.specs.FinMap.{get}
use Rattle.std.specs.declared.vec.Vec.{Vec}
use Rattle.reuse_change.specs.Files.{Files}
use Rattle.reuse_change.specs.Path.{journal_folder}
use Rattle.reuse_store.specs.declared.cause.Cause.{Cause}
use Rattle.reuse_store.specs.declared.store.Store.{Ghosts}
use Rattle.reuse_command.specs.Answer.{IsEarly, IsNoClash, IsOpenRefusal, DidNotFail}
use Rattle.reuse_journal.specs.Journal.{State}
use Rattle.reuse_journal.specs.Recovery.{HasNonePending, RefusesRecovery, StopsRecovering}
use Rattle.reuse_journal.specs.CommittedState.{IsCommittedState}
use Rattle.reuse_command.specs.declared.failure.Failure.TheVariants.{Interrupted}
use Rattle.reuse_command.specs.declared.reply.Recovered.{Recovered}
use Rattle.reuse_command.specs.declared.reply.Refusal.{Refusal}
use Rattle.reuse_command.specs.declared.reply.Refusal.TheVariants.{Failed}
use Rattle.reuse_command.specs.declared.reply.Response.{Response}
use Rattle.reuse_command.specs.declared.request.Request.{Request}
use Rattle.reuse_command.specs.declared.request.Request.TheVariants as requests
use Rattle.reuse_print.specs.declared.fault.Fault.{Fault}
use Rattle.reuse_arguments.specs.declared.line.PrintOptions.{PrintOptions}
use Rattle.reuse_undo.specs.run.AfterStops.{AnswersAfterStop, OpensToAnswer}
use Rattle.reuse_undo.specs.run.Called.{IsCalled}
use Rattle.reuse_undo.specs.run.DryRuns.{IsDiffOfCall}
use Rattle.reuse_undo.specs.run.Recoveries.{RefusesToRecover}
use Rattle.reuse_undo.specs.run.RunLine.{RequestLeaves, SessionLeaves}
use Rattle.reuse_report.specs.Responses.{IsDiffOf, IsDrawnPreview}
use Rattle.reuse_journal.proofs.PendingRecovery.{none_in_files}

-- no step is pending in files that are a committed state
pub none_pending : (files : Files) (held : State) → IsCommittedState files held → HasNonePending held.journal files
none_pending files held committed = record {
  above = (
    none_in_files files (codes ".reuse") refl
        (ap (λ (tree : Files). get tree (codes ".reuse")) committed.tree ∙ committed.good.no_reuse),
    none_in_files files journal_folder refl
        (ap (λ (tree : Files). get tree journal_folder) committed.tree ∙ committed.good.no_undo),
  );
  keeps = committed.journal;
}

-- how it is refused, of an answer that may be a refusal
pub refuses : (skip_moved : Bool) (before after : Files) (answer : Result Recovered Refusal)
    → IfErr answer IsOpenRefusal → (DidNotFail answer → RefusesRecovery skip_moved before answer)
    → IfErr answer IsNoClash
    → IfErr answer (λ refusal. IsEarly refusal → after ≡ before)
    → ((cause : Cause) → answer ≡ Err (Failed (Interrupted cause)) → StopsRecovering before after)
    → IfErr answer (λ refusal. RefusesToRecover skip_moved before refusal after)
refuses skip_moved before after (Ok reported) is exact clash early stopped = tt
refuses skip_moved before after (Err refusal) is exact clash early stopped = record {
  is_of_opening = is;
  exact = exact;
  no_clash = clash;
  unchanged = early;
  stopped = λ cause e. stopped cause (ap (λ r. Err r) e);
}

-- no diff stands behind its answer
pub none_of : {A : Type 0} (options : PrintOptions) (answer : Result Response Refusal) (text : Vec ℕ A)
    → text.items ≡ [] → IfOk answer (λ response. IsDiffOf options response (Ok text))
none_of options (Ok response) text none = inl none
none_of options (Err refusal) text none = tt

-- since none is a dry run
pub none_drawn : {A : Type 0} (options : PrintOptions) (skip_moved : Bool) (held : State)
    (answer : Result Response Refusal) (text : Vec ℕ A)
    → IfOk answer
    (λ response. IsDrawnPreview options response → IsDiffOfCall (requests.Recover skip_moved) held text.items)
none_drawn options skip_moved held (Ok response) text = λ drawn after would. absurd would
none_drawn options skip_moved held (Err refusal) text = tt

-- any other request is answered by a session
pub called_besides : {S A : Type 0} (store : Ghosts S) (request : Request) (options : PrintOptions) (old new : S)
    (answer : Result Response Refusal) (diff : Result (Vec ℕ A) Fault)
    → ((skip_moved : Bool) → request ≢ requests.Recover skip_moved)
    → IsCalled store SessionLeaves OpensToAnswer request options old new answer diff
    → IsCalled store RequestLeaves AnswersAfterStop request options old new answer diff
called_besides store (requests.Recover skip_moved) options old new answer diff other called =
    absurd (other skip_moved refl)
called_besides store request options old new answer diff other called = record {
  carries = called.carries;
  survives = called.survives;
  after_loss = called.after_loss;
  reads_only = called.reads_only;
  fault = called.fault;
  clash = called.clash;
  diff_of = called.diff_of;
  drawn = called.drawn;
  undrawn = called.undrawn;
  failures = called.failures;
  was_honest = called.was_honest;
}
