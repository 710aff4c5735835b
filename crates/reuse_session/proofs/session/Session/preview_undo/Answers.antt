use Rattle.std.proofs.Common.{sym, subst}
use Rattle.reuse_change.specs.declared.direction.Direction.TheVariants as go
use Rattle.reuse_session.specs.session.Model.{PreviewsReplayTo}
use Rattle.reuse_session.specs.session.Previews.{PreviewsReplay}
use Rattle.reuse_session.proofs.lemmas.session.Previewing.{alone_err, alone_looks, alone_where, reported_alone}
use Rattle.reuse_session.proofs.session.Session.preview_undo.Goals as goal

pub returns-clause-broken : goal.returns-clause-broken
returns-clause-broken g c = alone_where c.preview_step.result c.path_outcomes_alone.result c.path_outcomes_alone.ensures
    _ _ c.preview_step.ensures.broken

pub returns-clause-nothing : goal.returns-clause-nothing
returns-clause-nothing g c = alone_where c.preview_step.result c.path_outcomes_alone.result
    c.path_outcomes_alone.ensures _ _ c.preview_step.ensures.nothing

pub returns-clause-exact : goal.returns-clause-exact
returns-clause-exact g c honest held stands reported =
    subst (PreviewsReplay go.Backward held.journal.done held.tree) (sym c.path_outcomes_alone.ensures)
    (c.preview_step.ensures.exact honest held stands
    (reported_alone c.preview_step.result c.path_outcomes_alone.result c.path_outcomes_alone.ensures reported))

pub returns-clause-machine : goal.returns-clause-machine
returns-clause-machine g c honest state stands_at reported =
    subst (PreviewsReplayTo go.Backward state.past state.tree) (sym c.path_outcomes_alone.ensures)
    (c.preview_step.ensures.machine honest state stands_at
    (reported_alone c.preview_step.result c.path_outcomes_alone.result c.path_outcomes_alone.ensures reported))

pub returns-clause-reads_only : goal.returns-clause-reads_only
returns-clause-reads_only g c = alone_looks c.preview_step.result c.path_outcomes_alone.result
    c.path_outcomes_alone.ensures g.S.Store c.args.self.now c.preview_step.new.self c.preview_step.ensures.reads_only

pub returns-clause-refusal : goal.returns-clause-refusal
returns-clause-refusal g c = alone_err c.preview_step.result c.path_outcomes_alone.result c.path_outcomes_alone.ensures
    _ c.preview_step.ensures.refusal
