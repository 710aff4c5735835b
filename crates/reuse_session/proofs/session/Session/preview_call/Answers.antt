use Rattle.std.proofs.Common.{sym, subst}
use Rattle.reuse_session.specs.session.Requests.{Previews}
use Rattle.reuse_command.specs.declared.request.Call.{Call}
use Rattle.reuse_session.proofs.lemmas.session.Peeking.{preview_reads_with_cause}
use Rattle.reuse_session.proofs.session.Session.preview_call.Goals as goal

pub returns-in-Run-clause-exact : goal.returns-in-Run-clause-exact
returns-in-Run-clause-exact g c honest held stands reported =
    subst (λ (call : Call). Previews call held c.preview.result) (sym c.in-Run.is)
    (c.preview.ensures.answers honest held stands reported)

pub returns-in-Run-clause-reads_only : goal.returns-in-Run-clause-reads_only
returns-in-Run-clause-reads_only g c = preview_reads_with_cause g.S.Store c.preview.result c.args.self.now
    c.preview.new.self c.preview.ensures.reads_only c.preview.ensures.refusal

pub returns-in-Undo-clause-exact : goal.returns-in-Undo-clause-exact
returns-in-Undo-clause-exact g c honest held stands reported =
    subst (λ (call : Call). Previews call held c.preview_undo.result) (sym c.in-Undo.is)
    (c.preview_undo.ensures.exact honest held stands reported)

pub returns-in-Undo-clause-reads_only : goal.returns-in-Undo-clause-reads_only
returns-in-Undo-clause-reads_only g c = preview_reads_with_cause g.S.Store c.preview_undo.result c.args.self.now
    c.preview_undo.new.self c.preview_undo.ensures.reads_only c.preview_undo.ensures.refusal

pub returns-in-Redo-clause-exact : goal.returns-in-Redo-clause-exact
returns-in-Redo-clause-exact g c honest held stands reported =
    subst (λ (call : Call). Previews call held c.preview_redo.result) (sym c.in-Redo.is)
    (c.preview_redo.ensures.exact honest held stands reported)

pub returns-in-Redo-clause-reads_only : goal.returns-in-Redo-clause-reads_only
returns-in-Redo-clause-reads_only g c = preview_reads_with_cause g.S.Store c.preview_redo.result c.args.self.now
    c.preview_redo.new.self c.preview_redo.ensures.reads_only c.preview_redo.ensures.refusal

pub returns-in-Revert-clause-exact : goal.returns-in-Revert-clause-exact
returns-in-Revert-clause-exact g c honest held stands reported =
    subst (λ (call : Call). Previews call held c.preview_revert.result) (sym c.in-Revert.is)
    (c.preview_revert.ensures.exact honest held stands reported)
