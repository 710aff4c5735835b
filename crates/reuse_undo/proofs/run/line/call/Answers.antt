use Rattle.std.proofs.Common.{◌<◌, Ok, IfErr, refl, sym, subst}
use Rattle.reuse_command.specs.Answer.{HasCause}
use Rattle.reuse_command.specs.declared.reply.Response.TheVariants as responses
use Rattle.reuse_command.specs.declared.request.Request.TheVariants as requests
use Rattle.reuse_session.specs.session.Requests.{HasCallClash}
use Rattle.reuse_session.specs.session.Found.{AllAreAtSome, IsAfterLoss}
use Rattle.reuse_session.specs.session.Stops.{RunState, Recovers, closed}
use Rattle.reuse_undo.specs.run.AfterStops.{AnswersAfterStop}
use Rattle.reuse_undo.specs.run.Called.{IsCalled}
use Rattle.reuse_undo.specs.run.RunLine.{RequestLeaves}
use Rattle.reuse_command.proofs.OnlyReading.{early_files}
use Rattle.reuse_session.proofs.lemmas.session.Answering.{err_as_answer}
use Rattle.reuse_session.proofs.lemmas.session.ClosedRecovery.{recovers_safely}
use Rattle.reuse_session.proofs.lemmas.session.FoundAnswers.{recovered_points}
use Rattle.reuse_undo.proofs.lemmas.run.RecoveryLemmas.{called_besides, none_drawn, none_of, none_pending, refuses}
use Rattle.reuse_undo.proofs.run.line.call.Goals as goal

pub returns-in-Recover : goal.returns-in-Recover
returns-in-Recover g c =
    let store = g.S.Store in
    let options = c.args.options in
    let skip_moved = c.in-Recover.skip_moved in
    let recover = c.recover-store.ensures in
    let reported = c.recover-store.result.1 in
    let old = c.args.store in
    let new = c.recover-store.result.0 in
    let before = store.files old in
    let answer = c.recovered_answer-answer.result in
    subst (λ r. IsCalled store RequestLeaves AnswersAfterStop r options old new answer (Ok c.new.result))
    (sym c.in-Recover.is) (record {
      carries = λ honest. (
        reported,
        c.recovered_answer-answer.ensures,
        record {
          recovered = recover.recovered honest;
          refused =
              refuses skip_moved before (store.files new) reported recover.refusal (recover.exact honest)
              (recover.clash honest)
              (early_files store old new reported recover.early honest) (recover.interrupted honest);
          recovers = recover.recovers honest;
          folder = recover.folder honest;
        },
      );
      survives = λ honest start found.
          let end = recovers_safely store old new skip_moved (closed start) refl reported found
          (recover.recovered honest) (recover.recovers honest) (recover.survives honest) in
          (end.0, subst (λ a. Recovers a (closed start) end.0) (sym c.recovered_answer-answer.ensures) end.1, end.3);
      after_loss = λ honest start found synced.
          let end = recovered_points store old new synced start skip_moved reported found (recover.recovered honest)
          (recover.recovers honest) (recover.survives honest) in
          subst (λ a. (end : RunState) × Recovers a (closed start) end
          × AllAreAtSome store (IsAfterLoss a start end) new) (sym c.recovered_answer-answer.ensures) end;
      reads_only = λ honest look held committed. recover.quiet honest held.journal (none_pending before held committed);
      fault = subst (λ a. IfErr a (HasCause (store.failures old < store.failures new)))
          (sym c.recovered_answer-answer.ensures) (err_as_answer responses.Recovered reported _ recover.fault);
      clash = λ honest held committed.
          subst (λ a. IfErr a (HasCallClash (requests.Recover skip_moved) held before))
          (sym c.recovered_answer-answer.ensures)
          (err_as_answer responses.Recovered reported _ (recover.clash honest));
      diff_of = none_of options answer c.new.result c.new.ensures.items;
      drawn = λ honest held committed. none_drawn options skip_moved held answer c.new.result;
      undrawn = tt;
      failures = recover.later.failures;
      was_honest = recover.later.was_honest;
    })

pub returns-in_default : goal.returns-in_default
returns-in_default g c =
    called_besides g.S.Store c.args.request.now c.args.options _ _ _ _ c.in_default.not-Recover c.call_session.ensures
