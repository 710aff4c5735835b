use Rattle.std.proofs.Common.{◌≡◌, ◌∙◌, false, ◌&&◌, is_some, refl, sym, ap, subst}
use Rattle.reuse_header.specs.Found.{block_view}
use Rattle.reuse_header.specs.Header.{header_of, span_in}
use Rattle.reuse_edit.specs.Annotation.{annotation_of}
use Rattle.reuse_edit.specs.Annotate.{edit_by}
use Rattle.reuse_edit.specs.AnnotationPlan.{path_inside_by}
use Rattle.reuse_edit.specs.Annotations.{Fits}
use Rattle.reuse_edit.specs.Harmed.{harm_inside}
use Rattle.reuse_edit.specs.PathEdits.{PathEdit}
use Rattle.reuse_edit.specs.PathPlans.{IsPlanOf}
use Rattle.reuse_edit.specs.Answered.{IsRefusalOf, MakesEdit}
use Rattle.reuse_edit.specs.declared.path_plan.PathPlan.TheVariants as plan
use Rattle.reuse_edit.specs.declared.path_plan.Policy.TheVariants.{Stop}
use Rattle.reuse_edit.proofs.EditLemmas.{fits_by, same_some, unskipped, inside_unskipped}
use Rattle.reuse_edit.proofs.place.plan_inside.Goals as goal
use Rattle.reuse_edit.proofs.place.plan_inside.Goals.{After-annotate_inside-made}
use Rattle.reuse_edit.proofs.place.plan_inside.Goals.{else-asked-via-then-asked+else-is_some}
use Rattle.reuse_edit.proofs.place.plan_inside.Goals.{else-asked-via-else-asked}

-- what is planned is the edit inside the file, which fits it
module _ (c : After-annotate_inside-made) where
  planned : path_inside_by c.args.asked.now c.args.path.now c.args.bytes.now c.args.style.now
      ≡ unskipped c.args.path.now (harm_inside c.args.style.now c.args.bytes.now)
      (edit_by c.args.path.now c.args.path.now c.args.bytes.now
      (annotation_of c.args.style.now c.args.asked.now.how.now c.args.asked.now.additions.now c.args.bytes.now))
  planned =
      let kept : (c.args.asked.now.scope.now.skip_existing && is_some (header_of c.args.style.now c.args.bytes.now))
      ≡ false = elim c.else-asked.branch [
        | else-asked-via-then-asked+else-is_some w ↦
            ap (λ b. b && is_some (header_of c.args.style.now c.args.bytes.now)) w.if-asked.true
            ∙ sym (same_some block_view (span_in c.args.bytes.now) _ (header_of c.args.style.now c.args.bytes.now)
            w.find.ensures.block) ∙ sym w.is_some.ensures ∙ w.if-is_some.false
        | else-asked-via-else-asked w ↦
            ap (λ b. b && is_some (header_of c.args.style.now c.args.bytes.now)) w.if-asked.false
      ] in
      inside_unskipped c.args.asked.now c.args.path.now c.args.bytes.now c.args.style.now kept

  fits : Fits c.args.bytes.now
      (annotation_of c.args.style.now c.args.asked.now.how.now c.args.asked.now.additions.now c.args.bytes.now)
  fits = fits_by c.args.bytes.now
      (annotation_of c.args.style.now c.args.asked.now.how.now c.args.asked.now.additions.now c.args.bytes.now)
      (λ edit e. c.text_annotations_fit.ensures.files c.args.style.now c.args.asked.now.how.now
      c.args.asked.now.additions.now.tags c.args.asked.now.additions.now.texts c.args.bytes.now edit e)

pub returns-in-Ok-Some-clause-step : goal.returns-in-Ok-Some-clause-step
returns-in-Ok-Some-clause-step c tree here =
    let at = (goal.at.returns-in-Ok-Some-clause-step c).After-annotate_inside-made in
    let expected =
    annotation_of c.args.style.now c.args.asked.now.how.now c.args.asked.now.additions.now c.args.bytes.now in
    let makes = subst (MakesEdit tree (edit_by c.args.path.now c.args.path.now c.args.bytes.now expected))
    c.in-Ok-Some.field-0-is
    (c.in-Ok-Some.ensures.edit tree expected here c.requires (fits at) c.annotate_inside-made.ensures) in
    subst (λ (e : PathEdit). IsPlanOf Stop tree e (plan.Change c.in-Ok-Some.change c.harm_inside-harm.result))
    (sym (planned at)) (makes.0, makes.1, makes.2, c.harm_inside-harm.ensures, refl)

pub returns-in_ok-try_clone-in-Ok-None-clause-step : goal.returns-in_ok-try_clone-in-Ok-None-clause-step
returns-in_ok-try_clone-in-Ok-None-clause-step c tree here =
    let at = (goal.at.returns-in_ok-try_clone-in-Ok-None-clause-step c).After-annotate_inside-made in
    let expected =
    annotation_of c.args.style.now c.args.asked.now.how.now c.args.asked.now.additions.now c.args.bytes.now in
    let makes = subst (MakesEdit tree (edit_by c.args.path.now c.args.path.now c.args.bytes.now expected))
    c.in-Ok-None.field-0-is
    (c.in-Ok-None.ensures.edit tree expected here c.requires (fits at) c.annotate_inside-made.ensures) in
    subst (λ (e : PathEdit). IsPlanOf Stop tree e (plan.Unchanged c.in_ok-try_clone-in-Ok-None.field-0))
    (sym (planned at)) (c.in_ok-try_clone-in-Ok-None.ensures, makes, refl, refl)

pub returns-in-Err-clause-step : goal.returns-in-Err-clause-step
returns-in-Err-clause-step c tree here =
    let at = (goal.at.returns-in-Err-clause-step c).After-annotate_inside-made in
    subst (λ (e : PathEdit). IsRefusalOf e.edit c.in-Err.refusal) (sym (planned at))
    (c.in-Err.ensures.edit tree (annotation_of c.args.style.now c.args.asked.now.how.now c.args.asked.now.additions.now
    c.args.bytes.now) here c.requires (fits at) c.annotate_inside-made.ensures)
