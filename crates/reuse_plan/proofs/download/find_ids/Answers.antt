use Rattle.std.proofs.Common.{◌+◌, ◌∷◌, ◌∙◌, ◌++◌, drop, map, IfErr, refl, sym, ap, subst}
use Rattle.std.specs.List.{AllByRecursion}
use Rattle.std.proofs.lemmas.Result.{err_from_is_err_and}
use Rattle.reuse_change.specs.Files.{Files}
use Rattle.reuse_store.proofs.AtChange.{left_here}
use Rattle.reuse_plan.specs.DownloadPlan.{HasText}
use Rattle.reuse_plan.specs.Downloads.{id_refusals}
use Rattle.reuse_edit.specs.Licence.{licence_path}
use Rattle.reuse_edit.specs.PathEdits.{refused_with, edits_in}
use Rattle.reuse_edit.specs.PathPlans.{EndsWalk}
use Rattle.reuse_edit.specs.Answered.{IsRefusalOf}
use Rattle.reuse_plan.specs.Shown.{ShowsLicences}
use Rattle.reuse_command.proofs.Asking.{of_plan}
use Rattle.reuse_plan.proofs.Downloading.{one_text_more, after_made, after_refused, some_refused, ended, paths_after}
use Rattle.reuse_plan.proofs.PathPlanning.{WalkedSoFar}
use Rattle.reuse_edit.proofs.PathPlanLemmas.{is_refusal_of}
use Rattle.reuse_plan.proofs.download.find_ids.Goals.{After-made_path, in-Ok+in_ok-push-in-Ok}
use Rattle.reuse_plan.proofs.download.find_ids.Goals.{in-Err+in_ok-refused-in-Err+in_ok-push-in-Err}
use Rattle.reuse_plan.proofs.download.find_ids.Goals as goal

module _ (c : After-made_path) (tree : Files) (are : ShowsLicences c.args.paths.now tree) where
  so : WalkedSoFar c.args.policy tree (id_refusals tree c.args.texts.now c.args.ids.now) (id_refusals tree
      c.args.texts.now (c.id-item.result ∷ drop (c.loop-id.id-index + 1) c.args.ids.now)) c.loop-id.refused.items
  so =
      subst (λ ids. WalkedSoFar c.args.policy tree (id_refusals tree c.args.texts.now c.args.ids.now)
      (id_refusals tree c.args.texts.now ids) c.loop-id.refused.items)
      (left_here c.args.ids.now c.loop-id.id-index c.loop-id-test.true c.id-item.result c.id-item.is)
      (c.loop-id.invariant.walked tree are).refused

pub loop-id-preserved : goal.loop-id-preserved
loop-id-preserved c = record {
  texts = elim c.match-made_path.branch [
    | in-Ok+in_ok-push-in-Ok w ↦
        subst (AllByRecursion (HasText c.args.texts.now))
        (sym (ap (λ v. v.items) w.made-is ∙ w.in_ok-push-in-Ok.ensures.items))
        (one_text_more c.args.texts.now c.loop-id.made.items w.in-Ok.path c.loop-id.invariant.texts
        w.in-Ok.ensures.text)
    | in-Err+in_ok-refused-in-Err+in_ok-push-in-Err w ↦
        subst (AllByRecursion (HasText c.args.texts.now)) (sym (ap (λ v. v.items) w.made-is)) c.loop-id.invariant.texts
  ];
  walked = λ tree are.
      let at = (goal.at.loop-id-preserved c).After-made_path in
      let texts = c.args.texts.now in
      let ids = c.args.ids.now in
      let all = id_refusals tree texts ids in
      let id = c.id-item.result in
      let rest = drop (c.loop-id.id-index + 1) ids in
      let plans = c.loop-id.refused.items in
      let here = left_here ids c.loop-id.id-index c.loop-id-test.true id c.id-item.is in
      elim c.match-made_path.branch [
        | in-Ok+in_ok-push-in-Ok w ↦
            let made = w.in-Ok.ensures.made tree are in
            record {
              refused = subst (WalkedSoFar c.args.policy tree all (id_refusals tree texts rest))
                  (sym (ap (λ v. v.items) w.refused-is))
                  (after_made c.args.policy tree texts all id rest plans (so at tree are) made.1);
              made = λ none.
                  paths_after c.loop-id.made.items c.match-made_path.made.items id w.in-Ok.path rest
                  (map licence_path ids) made.0 (ap (λ v. v.items) w.made-is ∙ w.in_ok-push-in-Ok.ensures.items)
                  (ap (λ left. c.loop-id.made.items ++ map licence_path left) (sym here)
                  ∙ (c.loop-id.invariant.walked tree are).made none);
            }
        | in-Err+in_ok-refused-in-Err+in_ok-push-in-Err w ↦
            let refusal = w.in-Err.refusal in
            let reported = w.in_ok-refused-in-Err.ensures.reported in
            let expected = w.in-Err.ensures.refused tree are in
            record {
              refused = subst (WalkedSoFar c.args.policy tree all (id_refusals tree texts rest))
                  (sym (ap (λ v. v.items) w.refused-is ∙ w.in_ok-push-in-Err.ensures.items))
                  (after_refused c.args.policy tree texts all id rest plans
                  (so at tree are) refusal w.in_ok-refused-in-Err.field-0 reported expected
                  (w.in_ok-refused-in-Err.ensures.plan tree (refused_with refusal)
                  (is_refusal_of (refused_with refusal).edit refusal refl)));
              made = λ none. absurd (some_refused c.args.policy tree texts all id rest plans
                  (so at tree are) refusal reported expected none);
            }
      ];
}

pub returns-in_err-refused-in-Err-clause-ended : goal.returns-in_err-refused-in-Err-clause-ended
returns-in_err-refused-in-Err-clause-ended c tree are =
    let at = (goal.at.returns-in_err-refused-in-Err-clause-ended c).After-made_path in
    let texts = c.args.texts.now in
    let ids = c.args.ids.now in
    let all = id_refusals tree texts ids in
    let same = c.in_err-refused-in-Err.ensures.same in
    let ends = subst (EndsWalk c.args.policy) same
    (c.in_err-refused-in-Err.ensures.ends (of_plan c.in-Err.refusal c.in-Err.ensures.no_fault)) in
    let p =
    err_from_is_err_and c.from_residual-in_err-refused-in-Err.result c.from_residual-in_err-refused-in-Err.ensures.1 in
    subst (λ r. IfErr r (IsRefusalOf (edits_in all))) (sym p.1) (subst (IsRefusalOf (edits_in all)) (sym (p.2 ∙ same))
    (ended c.args.policy tree texts all c.id-item.result (drop (c.loop-id.id-index + 1) ids) c.loop-id.refused.items
    (so at tree are) c.in-Err.refusal ends (c.in-Err.ensures.refused tree are)))
