use Rattle.std.proofs.Common.{◌<◌, IfErr, Some, arith, ap, sym, subst, ◌∙◌}
use Rattle.std.proofs.lemmas.Bool.{false≢true}
use Rattle.reuse_change.specs.Files.{Files}
use Rattle.reuse_command.specs.Answer.{HasCause}
use Rattle.reuse_journal.specs.JournalFiles.{IsFree}
use Rattle.reuse_session.specs.session.SessionSlot.{IsSafelyAt}
use Rattle.reuse_session.specs.session.Stops.{RunState, open_at, Continues, FilesAt}
use Rattle.reuse_session.specs.declared.events.SessionSlot.TheVariants.{Closed}
use Rattle.reuse_change.specs.Tree.{undo_folder_of}
use Rattle.reuse_session.proofs.lemmas.session.Driving.{goes_on, closes}
use Rattle.reuse_session.proofs.lemmas.session.SafeAnswers.{follows, stands, stops, goes_safely}
use Rattle.reuse_session.proofs.lemmas.session.SafeDriving.{goes_on_safely, closes_safely}
use Rattle.reuse_session.proofs.events.go_on.Goals as goal

pub returns-then-is_interrupted-clause-continues : goal.returns-then-is_interrupted-clause-continues
returns-then-is_interrupted-clause-continues g c honest state forgetting at =
    let store = g.S.Store in
    let same = c.into_store.ensures in
    let was = c.is_interrupted.ensures.0 c.if-is_interrupted.true in
    let request = c.args.request.now in
    let answer = c.answer-answer.result in
    let left = stops store request answer c.args.session c.answer-answer.new.self c.answer-answer.ensures
    (subst store.honest same honest) state at was.0 was.1 in
    closes store.files request answer state forgetting c.into_store.result was.0 was.1 c.answer-answer.ensures.fails
    (left.0, left.1, left.2, subst (λ (f : Files). FilesAt f state (Some left.1)) (sym (ap store.files same)) left.3)

pub returns-then-is_interrupted-clause-survives : goal.returns-then-is_interrupted-clause-survives
returns-then-is_interrupted-clause-survives g c honest state forgetting safely =
    let store = g.S.Store in
    let request = c.args.request.now in
    let answer = c.answer-answer.result in
    let same = c.into_store.ensures in
    let was = c.is_interrupted.ensures.0 c.if-is_interrupted.true in
    let goes = goes_safely store request answer c.args.session c.answer-answer.new.self c.answer-answer.ensures
    (subst store.honest same honest) state forgetting safely in
    subst (λ left. (new : RunState) × Continues request answer (open_at forgetting state) new
    × IsSafelyAt store (Closed left) new) (sym same)
    (closes_safely store request answer state forgetting c.answer-answer.new.self was.0 was.1
    c.answer-answer.ensures.fails goes)

pub returns-then-is_interrupted-clause-clash : goal.returns-then-is_interrupted-clause-clash
returns-then-is_interrupted-clause-clash g c honest state at free =
    c.answer-answer.ensures.unclashed (subst g.S.Store.honest c.into_store.ensures honest) at.held at.stands free

pub returns-then-is_interrupted-clause-free : goal.returns-then-is_interrupted-clause-free
returns-then-is_interrupted-clause-free g c honest free =
    let store = g.S.Store in
    let same = c.into_store.ensures in
    subst (λ (f : Files). IsFree (undo_folder_of f)) (sym (ap store.files same))
    (c.answer-answer.ensures.free (subst store.honest same honest) free)

pub returns-then-is_interrupted-clause-fault : goal.returns-then-is_interrupted-clause-fault
returns-then-is_interrupted-clause-fault g c =
    subst (λ n. IfErr c.answer-answer.result (HasCause (g.S.Store.failures c.args.session.store < n)))
    (sym (ap g.S.Store.failures c.into_store.ensures)) c.answer-answer.ensures.call.fault

pub returns-then-is_interrupted-clause-failures : goal.returns-then-is_interrupted-clause-failures
returns-then-is_interrupted-clause-failures g c =
    omega (arith, ap g.S.Store.failures c.into_store.ensures, c.answer-answer.ensures.call.later.failures)

pub returns-then-is_interrupted-clause-was_honest : goal.returns-then-is_interrupted-clause-was_honest
returns-then-is_interrupted-clause-was_honest g c honest =
    c.answer-answer.ensures.call.later.was_honest (subst g.S.Store.honest c.into_store.ensures honest)

pub returns-clause-continues : goal.returns-clause-continues
returns-clause-continues g c honest state forgetting at =
    let store = g.S.Store in
    let request = c.args.request.now in
    let answer = c.answer-answer.result in
    let old = c.args.session in
    let new = c.answer-answer.new.self in
    goes_on store.files request answer state forgetting new
    (follows store request answer old new c.answer-answer.ensures honest state at)
    (stands store request answer old new c.answer-answer.ensures honest state at)
    c.answer-answer.ensures.fails
    (λ cause is. false≢true (sym c.if-is_interrupted.false ∙ c.is_interrupted.ensures.1 (cause, is)))

pub returns-clause-survives : goal.returns-clause-survives
returns-clause-survives g c honest state forgetting safely =
    let store = g.S.Store in
    goes_on_safely store state forgetting c.answer-answer.new.self c.args.request.now c.answer-answer.result
    (goes_safely store c.args.request.now c.answer-answer.result c.args.session c.answer-answer.new.self
    c.answer-answer.ensures honest state forgetting safely) c.answer-answer.ensures.fails
    (λ cause is. false≢true (sym c.if-is_interrupted.false ∙ c.is_interrupted.ensures.1 (cause, is)))
