use Rattle.std.proofs.Common.{◌≡◌, ◌∙◌, List, ℕ, length, Some, Result, Ok, Err, sym, ap, subst, arith}
use Rattle.std.proofs.lemmas.Result.{err_from_is_err_and}
use Rattle.reuse_style.specs.declared.style.Style.{Style}
use Rattle.reuse_change.specs.Files.{Files}
use Rattle.reuse_edit.specs.AnnotationPlan.{place_by, edit_by_place, path_by_place, path_inside_by}
use Rattle.reuse_edit.specs.PathPlans.{IsPlanOf}
use Rattle.reuse_edit.specs.declared.path_plan.Policy.TheVariants.{Stop}
use Rattle.reuse_edit.specs.Answered.{IsRefusalOf}
use Rattle.reuse_edit.specs.Steps.{short_file, StepsTo, StepsBy}
use Rattle.reuse_edit.specs.declared.annotation.Annotation.{Annotation}
use Rattle.reuse_edit.specs.declared.target.Target.TheVariants.{Inside}
use Rattle.reuse_edit.specs.declared.place.Step.{Step}
use Rattle.reuse_edit.specs.declared.place.Step.TheVariants.{Done, InNeighbour}
use Rattle.reuse_command.specs.declared.reply.Refusal.{Refusal}
use Rattle.reuse_edit.proofs.AbsentFiles.{refusal_passes}
use Rattle.reuse_edit.proofs.EditLemmas.{short_is, long_is}
use Rattle.reuse_edit.proofs.place.plan_reading.Goals as goal

steps_inside : (tree : Files) (asked : Annotation) (path bytes : List ℕ) (style : Style) (r : Result Step Refusal)
    → place_by asked path bytes ≡ Ok (Inside style)
    → StepsBy tree (path_inside_by asked path bytes style) r → StepsTo asked tree path bytes r
steps_inside tree asked path bytes style (Ok (Done plan)) e h =
    subst (λ t. IsPlanOf Stop tree (path_by_place asked tree path bytes t) plan) (sym e) h
steps_inside tree asked path bytes style (Ok InNeighbour) e h = absurd h
steps_inside tree asked path bytes style (Err refusal) e h =
    subst (λ t. IsRefusalOf (edit_by_place asked tree path bytes t) refusal) (sym e) h

pub target_by_bytes-requires : goal.target_by_bytes-requires
target_by_bytes-requires c = omega (arith, ap length c.as_slice.ensures, c.in_ok-bytes.ensures.short)

pub returns-in_err-bytes-clause-step : goal.returns-in_err-bytes-clause-step
returns-in_err-bytes-clause-step c tree file here reading =
    let asked = c.args.asked.now in
    let path = c.args.path.now in
    let expected = edit_by_place asked tree path file (place_by asked path file) in
    let long : (refusal : Refusal) → short_file path file ≡ Err refusal → place_by asked path file ≡ Err refusal =
    λ refusal e. long_is path file _ refusal e in
    let p = err_from_is_err_and c.from_residual.result c.from_residual.ensures.1 in
    subst (StepsTo asked tree path file) (sym p.1) (subst (IsRefusalOf expected) (sym p.2)
    (refusal_passes (short_file path file) expected (λ refusal e. ap (edit_by_place asked tree path file)
    (long refusal e)) c.in_err-bytes.field-0.0 (c.in_err-bytes.ensures.answer file reading)))

pub returns-in-Ok-Inside-clause-step : goal.returns-in-Ok-Inside-clause-step
returns-in-Ok-Inside-clause-step c tree bytes here reading =
    let same = (short_is c.args.path.now bytes c.in_ok-bytes.bytes (c.in_ok-bytes.ensures.answer bytes reading)).1 in
    let first : c.as_slice.result.now ≡ bytes = c.as_slice.ensures ∙ sym same in
    let again : c.as_slice-in-Ok-Inside.result.now ≡ bytes = c.as_slice-in-Ok-Inside.ensures ∙ sym same in
    steps_inside tree c.args.asked.now c.args.path.now bytes c.in-Ok-Inside.style c.plan_inside.result
    (subst (λ xs. place_by c.args.asked.now c.args.path.now xs ≡ Ok (Inside c.in-Ok-Inside.style)) first
    (c.in-Ok-Inside.ensures.target ∙ ap (λ t. Ok t) c.in-Ok-Inside.field-0-is))
    (subst (λ xs. StepsBy tree
    (path_inside_by c.args.asked.now c.args.path.now xs c.in-Ok-Inside.style) c.plan_inside.result) again
    (c.plan_inside.ensures.step tree (here ∙ ap (λ xs. Some xs) (sym again))))
