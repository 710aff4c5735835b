use Rattle.std.proofs.Common.{take, ◌+◌, ◌++◌, ◌∷◌, [], arith, ap, sym, subst, ◌∙◌}
use Rattle.std.proofs.lemmas.List.{take_more}
use Rattle.reuse_change.specs.Files.{tree_of}
use Rattle.reuse_plan.specs.PathOutcomes.{IsPathOutcomeOf, ArePathOutcomesOf}
use Rattle.reuse_store.proofs.AtChange.{tested, walked}
use Rattle.reuse_store.proofs.AskedLemmas.{reads_more}
use Rattle.reuse_session.proofs.lemmas.session.Previewing.{path_outcome_push}
use Rattle.reuse_session.proofs.session.replay_path_outcomes.replay_path_outcomes.Goals as goal

pub loop-change-preserved : goal.loop-change-preserved
loop-change-preserved g c =
    let i = c.loop-change.change-index in
    let change = c.change-item.result in
    let kept = c.loop-change.invariant in
    let was_honest = c.change_path_outcome.ensures.asks.reads.was_honest in
    let start = g.S.Store.files c.args.store.now in
    record {
      reads = reads_more g.S.Store _ _ _ kept.reads c.change_path_outcome.ensures.asks.reads;
      reported = λ honest good.
          let before = was_honest honest in
          let here = tested c.args.changes.now i c.loop-change-test.true change c.change-item.is
          (λ files. IsPathOutcomeOf c.args.direction (tree_of files) change c.in_ok-change_path_outcome.field-0)
          good kept.reads before (c.in_ok-change_path_outcome.ensures.path_outcome honest) in
          subst (λ fs. ArePathOutcomesOf c.args.direction (tree_of start) (take (i + 1) c.args.changes.now) fs)
          (sym c.in_ok-push.ensures.items)
          (subst (λ cs. ArePathOutcomesOf c.args.direction (tree_of start) cs (c.loop-change.path_outcomes.items
          ++ c.in_ok-change_path_outcome.field-0 ∷ [])) (ap (λ x. take i c.args.changes.now ++ x ∷ []) c.change-item.is
          ∙ sym (take_more c.args.changes.now i change c.loop-change-test.true))
          (path_outcome_push c.args.direction (tree_of start)
          (take i c.args.changes.now) c.loop-change.path_outcomes.items change c.in_ok-change_path_outcome.field-0
          (kept.reported before good) here));
    }

pub returns-clause-path_outcomes : goal.returns-clause-path_outcomes
returns-clause-path_outcomes g c honest good =
    let all = walked c.args.changes.now c.loop-change.change-index
    (omega (arith, c.loop-change-test.false, c.loop-change.auto.change-index-end)) in
    subst (ArePathOutcomesOf c.args.direction (tree_of (g.S.Store.files c.args.store.now)) c.args.changes.now)
    (sym c.new.ensures)
    (subst (λ cs. ArePathOutcomesOf c.args.direction (tree_of (g.S.Store.files c.args.store.now)) cs
    c.loop-change.path_outcomes.items) all (c.loop-change.invariant.reported honest good))
