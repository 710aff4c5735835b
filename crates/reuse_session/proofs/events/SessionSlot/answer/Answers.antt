use Rattle.std.proofs.Common.{◌<◌, IfErr, arith, ap, sym, subst}
use Rattle.reuse_change.specs.Files.{Files}
use Rattle.reuse_command.specs.Answer.{HasCause}
use Rattle.reuse_journal.specs.JournalFiles.{IsFree}
use Rattle.reuse_session.specs.session.SessionSlot.{store_in}
use Rattle.reuse_session.specs.session.Stops.{AnswersEvent, FilesAt, CrashStatesWithin}
use Rattle.reuse_change.specs.Tree.{undo_folder_of}
use Rattle.reuse_session.specs.declared.events.Event.{Event}
use Rattle.reuse_session.proofs.lemmas.session.Driving.{left_at, answers_reopen}
use Rattle.reuse_session.proofs.lemmas.session.SafeDriving.{found_in}
use Rattle.reuse_session.proofs.events.SessionSlot.answer.Goals as goal

pub returns-in-Reopen-clause-answers : goal.returns-in-Reopen-clause-answers
returns-in-Reopen-clause-answers g c honest old at =
    let files = g.S.Store.files in
    let left = subst (λ (f : Files). FilesAt f old.state old.next) (sym (ap files c.into_store.ensures))
    (left_at files c.args.self old at) in
    let r = c.open.ensures.reopens honest old left in (
      r.0,
      subst (λ (event : Event). AnswersEvent old.is_open event c.open.result.1 old r.0) (sym c.in-Reopen.is)
          (answers_reopen old.is_open c.open.result.1 old r.0 r.1),
      r.2,
    )

pub returns-in-Reopen-clause-survives : goal.returns-in-Reopen-clause-survives
returns-in-Reopen-clause-survives g c honest old at =
    let store = g.S.Store in
    let found = subst (λ s. CrashStatesWithin store s old.state old.next old.forgetting) (sym c.into_store.ensures)
    (found_in store c.args.self old at) in
    let r = c.open.ensures.survives honest old found in (
      r.0,
      subst (λ (event : Event). AnswersEvent old.is_open event c.open.result.1 old r.0) (sym c.in-Reopen.is)
          (answers_reopen old.is_open c.open.result.1 old r.0 r.1),
      r.2,
    )

pub returns-in-Reopen-clause-free : goal.returns-in-Reopen-clause-free
returns-in-Reopen-clause-free g c honest free = c.open.ensures.free honest
    (subst (λ (f : Files). IsFree (undo_folder_of f)) (sym (ap g.S.Store.files c.into_store.ensures)) free)

pub returns-in-Reopen-clause-fault : goal.returns-in-Reopen-clause-fault
returns-in-Reopen-clause-fault g c =
    let failures = g.S.Store.failures in
    subst (λ n. IfErr c.open.result.1 (HasCause (n < failures (store_in c.open.result.0))))
    (ap failures c.into_store.ensures) c.open.ensures.fault

pub returns-in-Reopen-clause-failures : goal.returns-in-Reopen-clause-failures
returns-in-Reopen-clause-failures g c =
    omega (arith, ap g.S.Store.failures c.into_store.ensures, c.open.ensures.failures)

pub returns-in-Reopen-clause-was_honest : goal.returns-in-Reopen-clause-was_honest
returns-in-Reopen-clause-was_honest g c honest =
    subst g.S.Store.honest c.into_store.ensures (c.open.ensures.was_honest honest)

pub returns-in-Ask-clause-answers : goal.returns-in-Ask-clause-answers
returns-in-Ask-clause-answers g c honest old at =
    let r = c.ask.ensures.answers honest old at in
    (r.0, subst (λ (event : Event). AnswersEvent old.is_open event c.ask.result.1 old r.0) (sym c.in-Ask.is) r.1, r.2)

pub returns-in-Ask-clause-survives : goal.returns-in-Ask-clause-survives
returns-in-Ask-clause-survives g c honest old at =
    let r = c.ask.ensures.survives honest old at in
    (r.0, subst (λ (event : Event). AnswersEvent old.is_open event c.ask.result.1 old r.0) (sym c.in-Ask.is) r.1, r.2)
