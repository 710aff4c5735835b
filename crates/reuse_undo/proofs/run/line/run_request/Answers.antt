use Rattle.std.proofs.Common.{◌≡◌, ◌<◌, Result, Ok, Err, IfOk, IfErr, refl, subst}
use Rattle.std.proofs.lemmas.Result.{IfOk-at_ok}
use Rattle.reuse_command.specs.Answer.{HasCause}
use Rattle.reuse_session.specs.session.Found.{AllAreAtSome, IsAfterLoss}
use Rattle.reuse_session.specs.session.Stops.{RunState, FilesAt, CrashStatesWithin}
use Rattle.reuse_undo.specs.run.AfterStops.{AnswersAfterStop}
use Rattle.reuse_undo.specs.run.DryRuns.{IsDiffOfCall}
use Rattle.reuse_session.specs.session.Requests.{HasCallClash}
use Rattle.reuse_undo.specs.run.RunLine.{RequestLeaves, FollowsModel}
use Rattle.reuse_report.specs.Responses.{IsDrawnPreview}
use Rattle.reuse_report.specs.WriterFaults.{IsUndrawn}
use Rattle.reuse_command.specs.declared.reply.Refusal.{Refusal}
use Rattle.reuse_command.specs.declared.reply.Response.{Response}
use Rattle.reuse_undo.proofs.lemmas.run.AfterStopLemmas.{answers_after_stop, reports_end}
use Rattle.reuse_report.proofs.DiffLemmas.{undrawn_reported}
use Rattle.reuse_undo.proofs.lemmas.run.DrawnLines.{drawn_in_lines, previews_report, reported_diff}
use Rattle.reuse_undo.proofs.lemmas.run.ModelLemmas.{carries_as, carries_step, reports_of, no_refusal}
use Rattle.reuse_undo.proofs.run.line.run_request.Goals as goal

pub returns-in-Ok : goal.returns-in-Ok
returns-in-Ok g c =
    let store = c.args.store in
    let left = c.call-store.result.0 in
    let before = g.S.Store.files store in
    let after = g.S.Store.files left in
    let request = c.args.request.now in
    let old = g.O.Sink.contents c.args.out.now in
    let new = g.O.Sink.contents c.finish.new.out in
    let outcome = c.finish.result in
    let finishes = c.finish.ensures.finishes in
    let carries = λ (honest : g.S.Store.honest left). carries_as before after request c.call-store.result.1
    (Ok c.in-Ok.response) (c.call-store.ensures.carries honest) c.in-Ok.is in
    record {
      exact = λ honest. reports_of c.args.options (λ answer. RequestLeaves before request answer after) c.in-Ok.response
          old new outcome (carries honest) finishes;
      machine = λ honest state held.
          reports_of c.args.options (λ answer. FollowsModel state request answer after) c.in-Ok.response old new outcome
          (carries_step state before request (Ok c.in-Ok.response) after held (carries honest)) finishes;
      after_stop = λ honest start found.
          let Ends = (λ (end : RunState). FilesAt after end.state end.next) in
          reports_end c.args.options (λ end answer. AnswersAfterStop request answer start end) Ends old new outcome
          (reports_of c.args.options (λ answer. (end : RunState) × AnswersAfterStop request answer start end × Ends end)
          c.in-Ok.response old new outcome
          (answers_after_stop before request (Ok c.in-Ok.response) after start found (carries honest)) finishes);
      survives = λ honest start found.
          let Ends = (λ (end : RunState). CrashStatesWithin g.S.Store left end.state end.next end.forgetting) in
          let Is = (λ (answer : Result Response Refusal). (end : RunState)
          × AnswersAfterStop request answer start end × Ends end) in
          reports_end c.args.options (λ end answer. AnswersAfterStop request answer start end) Ends old new outcome
          (reports_of c.args.options Is c.in-Ok.response old new outcome
          (subst Is c.in-Ok.is (c.call-store.ensures.survives honest start found)) finishes);
      after_loss = λ honest start found synced.
          let Is = (λ (answer : Result Response Refusal). (end : RunState)
          × AnswersAfterStop request answer start end
          × AllAreAtSome g.S.Store (IsAfterLoss answer start end) left) in
          reports_of c.args.options Is c.in-Ok.response old new outcome
          (subst Is c.in-Ok.is (c.call-store.ensures.after_loss honest start found synced)) finishes;
      drawn = λ honest held committed wants tree would.
          let states = previews_report request held tree before after c.in-Ok.response would (carries honest) in
          drawn_in_lines c.args.options held.tree tree c.in-Ok.response states.0 old new outcome c.call-store.result.2
          states.1 wants finishes c.finish.ensures.behind
          (λ planned. reported_diff request held tree c.call-store.result.2 would
          (IfOk-at_ok (λ (answer : Response). IsDrawnPreview c.args.options answer
          → IfOk c.call-store.result.2 (λ text. IsDiffOfCall request held text.items)) c.in-Ok.is
          (c.call-store.ensures.drawn honest held committed) planned));
      reads_only = c.call-store.ensures.reads_only;
      quiet = no_refusal _ _ _ _ outcome (λ refusal. c.finish.new.out ≡ c.args.out.now) finishes;
      failed = c.finish.ensures.failed;
      fault = no_refusal _ _ _ _ outcome _ finishes;
      clash = λ honest held committed. no_refusal _ _ _ _ outcome (HasCallClash request held before) finishes;
      undrawn = undrawn_reported outcome c.call-store.result.2 (IsUndrawn g.S.Store store left)
          (c.finish.new.out ≡ c.args.out.now) c.finish.ensures.undrawn c.call-store.ensures.undrawn;
      failures = c.call-store.ensures.failures;
      was_honest = c.call-store.ensures.was_honest;
    }

pub returns-in-Err : goal.returns-in-Err
returns-in-Err g c =
    let before = g.S.Store.files c.args.store in
    let left = c.call-store.result.0 in
    let after = g.S.Store.files left in
    let request = c.args.request.now in
    let carries = λ (honest : g.S.Store.honest left). carries_as before after request c.call-store.result.1
    (Err c.in-Err.refusal) (c.call-store.ensures.carries honest) c.in-Err.is in
    record {
      exact = λ honest. (carries honest, refl);
      machine = λ honest state held.
          (carries_step state before request (Err c.in-Err.refusal) after held (carries honest), refl);
      after_stop = λ honest start found. let at = answers_after_stop before request
          (Err c.in-Err.refusal) after start found (carries honest) in (at.0, (at.1, refl), at.2);
      survives = λ honest start found.
          let at = subst (λ answer. (end : RunState) × AnswersAfterStop request answer start end
          × CrashStatesWithin g.S.Store left end.state end.next end.forgetting) c.in-Err.is
          (c.call-store.ensures.survives honest start found) in
          (at.0, (at.1, refl), at.2);
      after_loss = λ honest start found synced. (
        subst (λ answer. (end : RunState) × AnswersAfterStop request answer start end
            × AllAreAtSome g.S.Store (IsAfterLoss answer start end) left) c.in-Err.is
            (c.call-store.ensures.after_loss honest start found synced),
        refl,
      );
      drawn = λ honest held committed wants tree would. tt;
      reads_only = c.call-store.ensures.reads_only;
      quiet = refl;
      failed = refl;
      fault = subst (λ answer. IfErr answer (HasCause (g.S.Store.failures c.args.store < g.S.Store.failures left)))
          c.in-Err.is c.call-store.ensures.fault;
      clash = λ honest held committed. subst (λ answer. IfErr answer (HasCallClash request held before)) c.in-Err.is
          (c.call-store.ensures.clash honest held committed);
      undrawn = tt;
      failures = c.call-store.ensures.failures;
      was_honest = c.call-store.ensures.was_honest;
    }
