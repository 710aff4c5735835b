use Rattle.std.proofs.Common.{◌<◌, ◌≤◌, ◌∙◌, inl, inr, is_some, IfErr, refl, sym, ap, subst, arith}
use Rattle.reuse_store.specs.Asked.{OnlyReads}
use Rattle.reuse_change.specs.Files.{tree_of}
use Rattle.reuse_session.specs.session.Session.{store_of}
use Rattle.reuse_session.specs.session.Requests.{HasCallClash}
use Rattle.reuse_session.specs.session.Stops.{closed}
use Rattle.reuse_undo.specs.run.RunLine.{SessionLeaves}
use Rattle.reuse_store.proofs.AskedLemmas.{reads_more}
use Rattle.reuse_session.proofs.lemmas.session.FoundAnswers.{asked_points, refused_points}
use Rattle.reuse_session.proofs.lemmas.session.Peeking.{caused}
use Rattle.reuse_session.proofs.lemmas.session.SafeDriving.{closed_safely}
use Rattle.reuse_undo.proofs.lemmas.run.CallLemmas.{carried, found_again, meets_by, unclashed}
use Rattle.reuse_report.proofs.DiffLemmas.{accepted_where, diff_after, diff_for, format_where, held_of}
use Rattle.reuse_report.proofs.DiffLemmas.{is_none_of, undrawn_by, wanted_where}
use Rattle.reuse_undo.proofs.lemmas.run.DrawnLines.{diff_of_call, drawn_where_wanted}
use Rattle.reuse_undo.proofs.lemmas.run.SafeCalls.{answers_safely, found_alike}
use Rattle.reuse_undo.proofs.run.line.call_session.Goals as goal

pub returns-in-Ok : goal.returns-in-Ok
returns-in-Ok g c =
    let store = g.S.Store in
    let files = store.files in
    let before = files c.args.store in
    let request = c.args.request.now in
    let options = c.args.options in
    let opened = c.in-Ok.opened in
    let asked = c.ask_for-answer in
    let session = asked.new.session in
    let answered = asked.ensures.answered in
    let drawn = c.draw_planned-store in
    let last = drawn.result.0 in
    let reads = subst (λ s. OnlyReads store s last) c.into_parts-store.ensures.store drawn.ensures.reads in
    let was = λ (honest : store.honest last). answered.call.later.was_honest (reads.was_honest honest) in
    record {
      carries = λ honest.
          let is_honest = reads.was_honest honest in
          subst (λ f. SessionLeaves before request asked.result.0 f) (sym (reads.files honest))
          (carried files before request opened asked.result.0 (files (store_of session)) (c.in-Ok.ensures.opened
          (was honest)) (λ first second doubt. c.in-Ok.ensures.recovers first second doubt (was honest))
          (meets_by store request asked.result.0 opened session answered is_honest) (answered.clash is_honest)
          (c.in-Ok.ensures.folder (was honest)) (answered.folder is_honest) (answered.unchanged is_honest));
      survives = λ honest start found.
          let end = answers_safely store c.args.store opened session request asked.result.0 start found
          (λ earlier held next doubt. c.in-Ok.ensures.survives earlier held next doubt (was honest)) answered
          (reads.was_honest honest) in (
            end.0,
            end.1,
            found_alike store store (store_of session) last (reads.files honest) reads.may (end.0).state (end.0).next
                (end.0).forgetting end.2,
          );
      after_loss = λ honest start found synced.
          let at = asked_points store opened session request asked.result.0 answered (reads.was_honest honest) start
          c.args.store found synced
          (λ earlier held next doubt. c.in-Ok.ensures.survives earlier held next doubt (was honest)) in (
            closed at.2.0,
            inr (at.0, at.1, (at.2.0, at.2.1, refl)),
            λ left may. at.2.2 left (reads.may left may),
          );
      reads_only = λ honest look held committed.
          reads_more store c.args.store (store_of session) last
          (reads_more store c.args.store (store_of opened) (store_of session)
          (c.in-Ok.ensures.quiet (was honest) held committed) (answered.reads_only look)) reads;
      fault =
          caused (store.failures (store_of opened) < store.failures (store_of session))
          (store.failures c.args.store < store.failures last)
          (λ rose. omega (arith, rose, c.in-Ok.ensures.later.failures, reads.failures)) asked.result.0
          answered.call.fault;
      clash = λ honest held committed.
          let found = found_again files before opened held committed (c.in-Ok.ensures.opened (was honest))
          (λ first second doubt. c.in-Ok.ensures.recovers first second doubt (was honest)) in
          subst (λ f. IfErr asked.result.0 (HasCallClash request held f)) found.1
          (answered.clash (reads.was_honest honest) held found.0);
      diff_of =
          diff_for store c.into_parts-store.result.0 last options asked.result.0 drawn.result.1 (is_some asked.result.1)
          (λ some. wanted_where options asked.result.0 (held_of asked.result.1 _ asked.ensures.wanted some))
          (λ none. drawn.ensures.none (is_none_of asked.result.1 none)) drawn.ensures.diff;
      drawn = λ honest held committed.
          let is_honest = reads.was_honest honest in
          let found = found_again files before opened held committed (c.in-Ok.ensures.opened (was honest))
          (λ first second doubt. c.in-Ok.ensures.recovers first second doubt (was honest)) in
          drawn_where_wanted options request held asked.result.0 drawn.result.1 (λ wanted look.
          let same = ap tree_of (ap files c.into_parts-store.ensures.store ∙ (answered.reads_only look).files is_honest)
          ∙ found.0.committed.tree in
          diff_of_call request held drawn.result.1 (λ after would.
          drawn.ensures.drawn honest held.tree after same
          (asked.ensures.previews (format_where options asked.result.0 wanted) is_honest held found.0 after would
          (accepted_where options asked.result.0 wanted))));
      undrawn =
          undrawn_by store c.args.store last drawn.result.1
          (diff_after store c.args.store c.into_parts-store.result.0 last drawn.result.1
          (subst (λ s. store.failures c.args.store ≤ store.failures s) (sym c.into_parts-store.ensures.store)
          (omega (arith, c.in-Ok.ensures.later.failures, answered.call.later.failures)))
          drawn.ensures.diff);
      failures = omega (arith, c.in-Ok.ensures.later.failures, answered.call.later.failures, reads.failures);
      was_honest = λ honest. c.in-Ok.ensures.later.was_honest (was honest);
    }

pub returns-in-Err : goal.returns-in-Err
returns-in-Err g c =
    let store = g.S.Store in
    let refused = c.in-Err.ensures in
    record {
      carries = λ honest. inl (
        c.in-Err.refusal,
        refl,
        record {
          is_of_opening = refused.refusal;
          bad = refused.bad honest;
          moved = refused.moved honest;
          no_clash = refused.clash honest;
          unchanged = λ early. (refused.early early).files honest;
          stopped = refused.interrupted honest;
          recovers = λ first second doubt. refused.recovers first second doubt honest;
          folder = refused.folder honest;
        },
      );
      survives = λ honest start found.
          let at = closed_safely store c.args.store c.in-Err.store c.in-Err.refusal start found
          (λ first second doubt. refused.recovers first second doubt honest)
          (λ earlier held next doubt. refused.survives earlier held next doubt honest) in
          (at.0, inl (c.in-Err.refusal, refl, at.1), at.2.1);
      after_loss = λ honest start found synced.
          let at = refused_points store c.args.store c.in-Err.store synced start c.in-Err.refusal found
          (λ first second doubt. (refused.recovers first second doubt honest).0)
          (λ earlier held next doubt. refused.survives earlier held next doubt honest) in
          (at.0, inl (c.in-Err.refusal, refl, at.1), at.2);
      reads_only = λ honest look held committed. refused.quiet honest held committed;
      fault = refused.fault;
      clash = λ honest held committed. unclashed c.args.request.now held (store.files c.args.store) c.in-Err.refusal
          (refused.clash honest);
      diff_of = tt;
      drawn = λ honest held committed. tt;
      undrawn = tt;
      failures = refused.later.failures;
      was_honest = refused.later.was_honest;
    }
