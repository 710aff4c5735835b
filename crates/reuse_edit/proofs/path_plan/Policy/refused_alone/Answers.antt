use Rattle.std.proofs.Common.{[], ◌∷◌, ◌++◌, ◌∙◌, refl, sym, ap, subst}
use Rattle.reuse_edit.specs.PathEdits.{refused_alone, refused_with}
use Rattle.reuse_edit.specs.PathPlans.{ArePlansOf}
use Rattle.reuse_edit.proofs.PathPlanLemmas.{is_refusal_of}
use Rattle.reuse_edit.proofs.path_plan.Policy.refused_alone.Goals as goal

pub returns-clause-plans : goal.returns-clause-plans
returns-clause-plans c tree =
    subst (ArePlansOf c.args.self tree (refused_alone c.args.refusal))
    (sym (c.in_ok-push.ensures.items ∙ ap (λ ps. ps ++ c.in_ok-plan.plan ∷ []) c.new-plans.ensures.items)) (
      c.in_ok-plan.ensures.plan tree (refused_with c.args.refusal)
          (is_refusal_of (refused_with c.args.refusal).edit c.args.refusal refl),
      tt,
    )
