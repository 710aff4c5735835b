use Rattle.std.proofs.Common.{◌∙◌, Ok, Err, inl, inr, ap, refl, subst}
use Rattle.reuse_change.specs.Files.{Files}
use Rattle.reuse_change.specs.declared.direction.Direction.TheVariants as go
use Rattle.reuse_session.specs.session.Previews.{run_path_outcomes_on}
use Rattle.reuse_command.specs.declared.command.Command.{Command}
use Rattle.reuse_command.specs.declared.path_outcome.Previewed.{Previewed}
use Rattle.reuse_session.specs.session.Requests.{ReadsOnlyWithCause}
use Rattle.reuse_command.specs.declared.request.Call.TheVariants as calls
use Rattle.reuse_command.specs.declared.request.Request.TheVariants as requests
use Rattle.reuse_undo.proofs.lemmas.run.PreviewedLemmas.{answered_with, broken_again, broken_same, call_answered}
use Rattle.reuse_undo.proofs.lemmas.run.PreviewedLemmas.{run_previews}
use Rattle.reuse_session.proofs.lemmas.session.Peeking.{reads_with_cause_err, reads_with_cause_on}
use Rattle.reuse_session.proofs.lemmas.session.Peeking.{preview_reads_with_cause, show_reads_with_cause, still_stands}
use Rattle.reuse_session.proofs.lemmas.session.Peeking.{reported_again}
use Rattle.reuse_undo.proofs.lemmas.run.TreeDiffLemmas.{reverts_to}
use Rattle.reuse_undo.proofs.run.line.planned.revert_with_changes.Goals as goal

pub returns-in-Ok : goal.returns-in-Ok
returns-in-Ok g c =
    let store = g.S.Store in
    let old = c.args.session.now in
    let mid = c.revert_command.new.self in
    let new = c.preview_changes-previewed.new.self in
    let number = c.args.number in
    let skip_moved = c.args.skip_moved in
    let command = c.in-Ok.command in
    let answer = c.preview_changes-previewed.result in
    let reported = c.preview_changes-previewed.ensures in
    let with = c.answer_with_changes in
    let reads_only = c.revert_command.ensures.reads_only in
    let first = show_reads_with_cause store c.revert_command.result old mid c.revert_command.ensures.broken.1
    reads_only.reads reads_only.kept reads_only.fails c.revert_command.ensures.call in
    let reads_with_cause = reads_with_cause_on store c.revert_command.result answer old mid new first
    (preview_reads_with_cause store answer mid new reported.reads_only reported.refusal) in
    answered_with store (requests.Preview (calls.Revert number skip_moved)) go.Forward answer with.result.0
    with.result.1 old new with.ensures.answer with.ensures.planned
    (call_answered store answer with.result.0 old new with.ensures.answer reads_with_cause (broken_again old mid answer
    reads_only.kept.1 reported.broken) (calls.Revert number skip_moved) (λ honest held stands states.
    let was_honest = reported.reads_only.reads.was_honest honest in
    let still = still_stands store c.revert_command.result old mid held first was_honest stands in
    let back = c.in-Ok.ensures.exact was_honest held stands tt in
    inr (back.0, back.1, back.2, reported.answers honest held still states ∙ ap (run_path_outcomes_on held) back.3)))
    (λ honest held stands after would.
    let was_honest = reported.reads_only.reads.was_honest honest in
    let still = still_stands store c.revert_command.result old mid held first was_honest stands in
    let back = c.in-Ok.ensures.exact was_honest held stands tt in
    run_previews command held answer after (reported.plan honest held still)
    (reverts_to store.files old held stands number skip_moved command back would.0 would.1 would.2 would.3
    ∙ ap (λ (tree : Files). Ok tree) would.4))

pub returns-in-Err : goal.returns-in-Err
returns-in-Err g c =
    let store = g.S.Store in
    let old = c.args.session.now in
    let new = c.revert_command.new.self in
    let refusal = c.in-Err.refusal in
    let reads_only = c.revert_command.ensures.reads_only in
    let first = show_reads_with_cause store c.revert_command.result old new c.revert_command.ensures.broken.1
    reads_only.reads reads_only.kept reads_only.fails c.revert_command.ensures.call in
    let reads_with_cause = reads_with_cause_err {A = Command} {B = Previewed} store refusal old new
    (subst (λ r. ReadsOnlyWithCause store r old new) c.in-Err.is first) in
    answered_with store (requests.Preview (calls.Revert c.args.number c.args.skip_moved)) go.Forward (Err refusal)
    (Err refusal) _ old new refl refl
    (call_answered store (Err refusal) (Err refusal) old new refl reads_with_cause
    (broken_same c.revert_command.result refusal c.in-Err.is c.revert_command.ensures.broken)
    (calls.Revert c.args.number c.args.skip_moved) (λ honest held stands reported.
    let none = c.in-Err.ensures.exact honest held stands (reported_again Previewed Command refusal reported) in
    inl (ap (λ r. Err r) none.0, none.1))) (λ honest held stands after would accepted. absurd accepted)
