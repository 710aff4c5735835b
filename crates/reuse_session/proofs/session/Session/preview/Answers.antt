use Rattle.std.proofs.Common.{◌≡◌, ◌∙◌, OnOk, sym, subst}
use Rattle.reuse_plan.specs.Counted.{IsCounted}
use Rattle.reuse_session.specs.session.Session.{counts_of}
use Rattle.reuse_plan.specs.PathOutcomes.{path_outcomes_of}
use Rattle.reuse_session.proofs.lemmas.session.CountedCalls.{on_path_outcomes}
use Rattle.reuse_session.proofs.lemmas.session.Previewing.{alone_err, alone_looks, alone_ok, alone_where}
use Rattle.reuse_session.proofs.lemmas.session.Previewing.{reported_alone}
use Rattle.reuse_session.proofs.session.Session.preview.Goals as goal

pub returns-clause-broken : goal.returns-clause-broken
returns-clause-broken g c = alone_where c.preview_changes.result c.path_outcomes_alone.result
    c.path_outcomes_alone.ensures _ _ c.preview_changes.ensures.broken

pub returns-clause-full : goal.returns-clause-full
returns-clause-full g c = alone_where c.preview_changes.result c.path_outcomes_alone.result
    c.path_outcomes_alone.ensures _ _ c.preview_changes.ensures.full

pub returns-clause-exact : goal.returns-clause-exact
returns-clause-exact g c honest held stands =
    alone_ok c.preview_changes.result c.path_outcomes_alone.result c.path_outcomes_alone.ensures (λ path_outcomes.
    path_outcomes ≡ path_outcomes_of c.args.command.now held.tree) (c.preview_changes.ensures.exact honest held stands)

pub returns-clause-answers : goal.returns-clause-answers
returns-clause-answers g c honest held stands reported =
    c.path_outcomes_alone.ensures ∙ c.preview_changes.ensures.answers honest held stands
    (reported_alone c.preview_changes.result c.path_outcomes_alone.result c.path_outcomes_alone.ensures reported)

pub returns-clause-machine : goal.returns-clause-machine
returns-clause-machine g c honest state stands_at reported =
    c.path_outcomes_alone.ensures ∙ c.preview_changes.ensures.machine honest state stands_at
    (reported_alone c.preview_changes.result c.path_outcomes_alone.result c.path_outcomes_alone.ensures reported)

pub returns-clause-reads_only : goal.returns-clause-reads_only
returns-clause-reads_only g c =
    alone_looks c.preview_changes.result c.path_outcomes_alone.result c.path_outcomes_alone.ensures g.S.Store
    c.args.self.now c.preview_changes.new.self c.preview_changes.ensures.reads_only

pub returns-clause-refusal : goal.returns-clause-refusal
returns-clause-refusal g c = alone_err c.preview_changes.result c.path_outcomes_alone.result
    c.path_outcomes_alone.ensures _ c.preview_changes.ensures.refusal

pub returns-clause-counts : goal.returns-clause-counts
returns-clause-counts g c honest held stands =
    subst (λ answer. OnOk answer (IsCounted c.args.command.now held.tree (counts_of c.preview_changes.new.self)))
    (sym c.path_outcomes_alone.ensures)
    (on_path_outcomes c.preview_changes.result _ (c.preview_changes.ensures.counts honest held stands))
