use Rattle.std.proofs.Common.{◌≡◌, ◌<◌, IfErr, arith, ap, sym, subst}
use Rattle.reuse_change.specs.Files.{Files}
use Rattle.reuse_command.specs.Answer.{HasCause}
use Rattle.reuse_journal.specs.JournalFiles.{IsFree}
use Rattle.reuse_session.specs.session.Session.{store_of}
use Rattle.reuse_session.specs.session.SessionSlot.{store_in}
use Rattle.reuse_session.specs.session.Stops.{RunState, AnswersEvent}
use Rattle.reuse_change.specs.Tree.{undo_folder_of}
use Rattle.reuse_session.specs.declared.events.Event.TheVariants as asked
use Rattle.reuse_session.proofs.lemmas.session.Driving.{at_open, at_closed}
use Rattle.reuse_session.proofs.lemmas.session.SafeDriving.{safely_open, safely_closed}
use Rattle.reuse_session.proofs.events.SessionSlot.ask.Goals as goal

pub returns-in-Open : goal.returns-in-Open
returns-in-Open g c =
    let store = g.S.Store in
    let session = c.in-Open.session in
    let here : store_in c.args.self ≡ store_of session = ap store_in c.in-Open.is in
    record {
      answers = λ honest old at.
          let stands = at_open store.files c.args.self session old c.in-Open.is at in
          let r = c.go_on.ensures.continues honest old.state old.forgetting stands.1 in (
            r.0,
            subst (λ (p : RunState). AnswersEvent p.is_open (asked.Ask c.args.request.now) c.go_on.result.1 p r.0)
                (sym stands.0) r.1,
            r.2,
          );
      survives = λ honest old at.
          let safely = safely_open store c.args.self session old c.in-Open.is at in
          let r = c.go_on.ensures.survives honest old.state old.forgetting safely.1 in (
            r.0,
            subst (λ (p : RunState). AnswersEvent p.is_open (asked.Ask c.args.request.now) c.go_on.result.1 p r.0)
                (sym safely.0) r.1,
            r.2,
          );
      clash = λ honest old at free.
          let stands = at_open store.files c.args.self session old c.in-Open.is at in
          c.go_on.ensures.clash honest old.state stands.1
          (subst (λ (f : Files). IsFree (undo_folder_of f)) (ap store.files here) free);
      free = λ honest free. c.go_on.ensures.free honest
          (subst (λ (f : Files). IsFree (undo_folder_of f)) (ap store.files here) free);
      fault = subst (λ n. IfErr c.go_on.result.1 (HasCause (n < store.failures (store_in c.go_on.result.0))))
          (sym (ap store.failures here)) c.go_on.ensures.fault;
      failures = omega (arith, ap store.failures here, c.go_on.ensures.failures);
      was_honest = λ honest. subst store.honest (sym here) (c.go_on.ensures.was_honest honest);
    }

pub returns-in-Closed : goal.returns-in-Closed
returns-in-Closed g c =
    let store = g.S.Store in
    let here : store_in c.args.self ≡ c.in-Closed.store = ap store_in c.in-Closed.is in
    record {
      answers = λ honest old at.
          let left = at_closed store.files c.args.self c.in-Closed.store old c.in-Closed.is at in
          let r = c.ask_closed-store.ensures.answers honest old left.0 left.1 in (
            r.0,
            subst (λ b. AnswersEvent b (asked.Ask c.args.request.now) c.ask_closed-store.result.1 old r.0)
                (sym left.0) r.1,
            (r.2, r.3),
          );
      survives = λ honest old at.
          let found = safely_closed store c.args.self c.in-Closed.store old c.in-Closed.is at in
          let r = c.ask_closed-store.ensures.survives honest old found.0 found.1 in (
            r.0,
            subst (λ b. AnswersEvent b (asked.Ask c.args.request.now) c.ask_closed-store.result.1 old r.0)
                (sym found.0) r.1,
            (r.2, r.3),
          );
      clash = λ honest old at free. c.ask_closed-store.ensures.clash honest;
      free = λ honest free. c.ask_closed-store.ensures.free honest
          (subst (λ (f : Files). IsFree (undo_folder_of f)) (ap store.files here) free);
      fault = subst (λ n. IfErr c.ask_closed-store.result.1 (HasCause (n < store.failures c.ask_closed-store.result.0)))
          (sym (ap store.failures here)) c.ask_closed-store.ensures.fault;
      failures = omega (arith, ap store.failures here, c.ask_closed-store.ensures.failures);
      was_honest = λ honest. subst store.honest (sym here) (c.ask_closed-store.ensures.was_honest honest);
    }
