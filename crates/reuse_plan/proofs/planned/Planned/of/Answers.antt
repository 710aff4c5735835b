use Rattle.std.proofs.Common.{◌∙◌, ◌++◌, ◌∷◌, [], ◌||◌, sym, ap, option_to_list}
use Rattle.reuse_plan.specs.Planned.{change_planned, path_outcome_planned, is_refusal}
use Rattle.reuse_plan.proofs.PathPlanning.{changes_more, path_outcomes_more, refused_more}
use Rattle.reuse_plan.proofs.planned.Planned.of.Goals as goal

pub loop-plan-preserved : goal.loop-plan-preserved
loop-plan-preserved c = record {
  path_outcomes = c.in_ok-push.ensures.path_outcomes
      ∙ ap (λ fs. fs ++ path_outcome_planned c.in-Some.plan ∷ []) c.loop-plan.invariant.path_outcomes
      ∙ sym (path_outcomes_more c.loop-plan.yielded c.in-Some.plan);
  changes = c.in_ok-push.ensures.changes
      ∙ ap (λ cs. cs ++ option_to_list (change_planned c.in-Some.plan)) c.loop-plan.invariant.changes
      ∙ sym (changes_more c.loop-plan.yielded c.in-Some.plan);
  refused = c.in_ok-push.ensures.refused ∙ ap (λ b. b || is_refusal c.in-Some.plan) c.loop-plan.invariant.refused
      ∙ sym (refused_more c.loop-plan.yielded c.in-Some.plan);
}
