use Rattle.std.proofs.Common.{◌∙◌, Ok, ap, sym, subst}
use Rattle.reuse_change.specs.Files.{Files}
use Rattle.reuse_change.specs.declared.direction.Direction.TheVariants as go
use Rattle.reuse_command.specs.declared.request.Call.{Call}
use Rattle.reuse_command.specs.declared.request.Call.TheVariants as calls
use Rattle.reuse_undo.specs.run.DryRuns.{IsAnsweredWith}
use Rattle.reuse_command.specs.declared.request.Request.TheVariants as requests
use Rattle.reuse_undo.proofs.lemmas.run.PreviewedLemmas.{answered_with, call_answered, run_previews, step_previews}
use Rattle.reuse_session.proofs.lemmas.session.Peeking.{preview_reads_with_cause}
use Rattle.reuse_undo.proofs.lemmas.run.TreeDiffLemmas.{ran_to}
use Rattle.reuse_undo.proofs.run.line.planned.call_with_changes.Goals as goal

pub returns-in-Run : goal.returns-in-Run
returns-in-Run g c =
    let store = g.S.Store in
    let old = c.args.session.now in
    let new = c.preview_changes.new.self in
    let answer = c.preview_changes.result in
    let reported = c.preview_changes.ensures in
    let with = c.answer_with_changes in
    let command = c.in-Run.command in
    let reads_with_cause = preview_reads_with_cause store answer old new reported.reads_only reported.refusal in
    subst (λ (call : Call). IsAnsweredWith store (requests.Preview call) with.result.0 with.result.1 old new)
    (sym c.in-Run.is)
    (answered_with store (requests.Preview (calls.Run command)) go.Forward answer with.result.0 with.result.1 old new
    with.ensures.answer with.ensures.planned
    (call_answered store answer with.result.0 old new with.ensures.answer reads_with_cause reported.broken
    (calls.Run command) reported.answers) (λ honest held stands after would.
    run_previews command held answer after (reported.plan honest held stands)
    (ran_to command would.0 held would.1 would.2 would.3 ∙ ap (λ (tree : Files). Ok tree) would.4)))

pub returns-in-Undo : goal.returns-in-Undo
returns-in-Undo g c =
    let store = g.S.Store in
    let old = c.args.session.now in
    let new = c.preview_step.new.self in
    let answer = c.preview_step.result in
    let reported = c.preview_step.ensures in
    let with = c.answer_with_changes-in-Undo in
    let reads_with_cause = preview_reads_with_cause store answer old new reported.reads_only reported.refusal in
    subst (λ (call : Call). IsAnsweredWith store (requests.Preview call) with.result.0 with.result.1 old new)
    (sym c.in-Undo.is)
    (answered_with store (requests.Preview calls.Undo) go.Backward answer with.result.0 with.result.1 old new
    with.ensures.answer with.ensures.planned
    (call_answered store answer with.result.0 old new with.ensures.answer reads_with_cause reported.broken calls.Undo
    reported.exact) (λ honest held stands after would.
    step_previews go.Backward held answer would.1 would.2 after would.3 would.4
    (reported.changes honest held stands) reported.good))

pub returns-in-Redo : goal.returns-in-Redo
returns-in-Redo g c =
    let store = g.S.Store in
    let old = c.args.session.now in
    let new = c.preview_step-in-Redo.new.self in
    let answer = c.preview_step-in-Redo.result in
    let reported = c.preview_step-in-Redo.ensures in
    let with = c.answer_with_changes-in-Redo in
    let reads_with_cause = preview_reads_with_cause store answer old new reported.reads_only reported.refusal in
    subst (λ (call : Call). IsAnsweredWith store (requests.Preview call) with.result.0 with.result.1 old new)
    (sym c.in-Redo.is)
    (answered_with store (requests.Preview calls.Redo) go.Forward answer with.result.0 with.result.1 old new
    with.ensures.answer with.ensures.planned
    (call_answered store answer with.result.0 old new with.ensures.answer reads_with_cause reported.broken calls.Redo
    reported.exact) (λ honest held stands after would.
    step_previews go.Forward held answer would.1 would.2 after would.3 would.4
    (reported.changes honest held stands) reported.good))

pub returns-in-Revert : goal.returns-in-Revert
returns-in-Revert g c =
    let with = c.revert_with_changes in
    subst (λ (call : Call). IsAnsweredWith g.S.Store (requests.Preview call) with.result.0 with.result.1
    c.args.session.now with.new.session) (sym c.in-Revert.is) with.ensures
