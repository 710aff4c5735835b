use Rattle.std.proofs.Common.{◌≡◌, ◌∙◌, ℕ, false, ◌&&◌, nat_lt, List, length, Some, None, sym, ap, subst, arith}
use Rattle.std.proofs.lemmas.Result.{err_from_is_err_and}
use Rattle.reuse_words.specs.Added.{IsExpectedTextEdit, text_answer}
use Rattle.reuse_command.specs.Reading.{get, Files, reading_of}
use Rattle.reuse_text.specs.declared.TheConstants.{LONGEST_FILE}
use Rattle.reuse_edit.specs.Annotation.{neighbour_annotation_of}
use Rattle.reuse_edit.specs.Annotate.{neighbour_of, neighbour_is_tagged, edit_by}
use Rattle.reuse_edit.specs.AnnotationPlan.{neighbour_by, path_neighbour_by}
use Rattle.reuse_edit.specs.PathEdits.{PathEdit}
use Rattle.reuse_edit.specs.PathPlans.{AnswersPlan, IsPlanOf}
use Rattle.reuse_edit.specs.declared.path_plan.Policy.TheVariants.{Stop}
use Rattle.reuse_edit.proofs.EditLemmas.{unskipped, beside_unskipped, fits_by, short_is, long_is}
use Rattle.reuse_edit.specs.Answered.{IsRefusalOf, AnswersEdit}
use Rattle.reuse_edit.specs.Steps.{short_file}
use Rattle.reuse_edit.proofs.AbsentFiles.{refusal_passes}
use Rattle.reuse_edit.proofs.place.plan_neighbour.Goals as goal
use Rattle.reuse_edit.proofs.place.plan_neighbour.Goals.{After-change_by}
use Rattle.reuse_edit.proofs.place.plan_neighbour.Goals.{else-asked-via-then-asked+else-neighbour_has_tag}
use Rattle.reuse_edit.proofs.place.plan_neighbour.Goals.{else-asked-via-else-asked}

pub annotate_beside-made-requires : goal.annotate_beside-made-requires
annotate_beside-made-requires c = omega (arith, ap length c.as_slice-2.ensures, c.in_ok-bytes.ensures.short)

pub returns-in_err-bytes-clause-plan : goal.returns-in_err-bytes-clause-plan
returns-in_err-bytes-clause-plan c tree bytes is here reading =
    let path = c.args.path.now in
    let expected = neighbour_by c.args.asked.now tree path (Some bytes) in
    let p = err_from_is_err_and c.from_residual.result c.from_residual.ensures.1 in
    subst (AnswersPlan Stop tree (path_neighbour_by c.args.asked.now tree path (Some bytes))) (sym p.1)
    (subst (IsRefusalOf expected) (sym p.2)
    (refusal_passes (short_file path bytes) expected (λ refusal e. long_is path bytes _ refusal e)
    c.in_err-bytes.field-0.0 (c.in_err-bytes.ensures.answer bytes reading)))

-- what is planned is the edit of the neighbour, which fits it
module _ (c : After-change_by) (tree : Files) (bytes : List ℕ)
    (is : c.args.neighbour.now ≡ neighbour_of c.args.path.now) (here : get tree c.args.neighbour.now ≡ Some bytes)
    (reading : c.args.reading ≡ reading_of (Some bytes) LONGEST_FILE) where
  short : (nat_lt LONGEST_FILE (length bytes) ≡ false) × (bytes ≡ c.in_ok-bytes.bytes)
  short = short_is c.args.path.now bytes c.in_ok-bytes.bytes (c.in_ok-bytes.ensures.answer bytes reading)

  planned : path_neighbour_by c.args.asked.now tree c.args.path.now (Some bytes)
      ≡ unskipped c.args.path.now None (edit_by c.args.path.now (neighbour_of c.args.path.now) bytes
      (neighbour_annotation_of c.args.asked.now.how.now c.args.asked.now.additions.now bytes))
  planned =
      let kept : (c.args.asked.now.scope.now.skip_existing && neighbour_is_tagged bytes) ≡ false =
      elim c.else-asked.branch [
        | else-asked-via-then-asked+else-neighbour_has_tag w ↦
            ap (λ b. b && neighbour_is_tagged bytes) w.if-asked.true ∙ ap neighbour_is_tagged
            (short.1 ∙ sym w.as_slice.ensures) ∙ sym w.neighbour_has_tag.ensures ∙ w.if-neighbour_has_tag.false
        | else-asked-via-else-asked w ↦ ap (λ b. b && neighbour_is_tagged bytes) w.if-asked.false
      ] in
      beside_unskipped c.args.asked.now c.args.path.now tree bytes short.0 kept

  answers : AnswersEdit tree (edit_by c.args.path.now (neighbour_of c.args.path.now) bytes
      (neighbour_annotation_of c.args.asked.now.how.now c.args.asked.now.additions.now bytes)) c.change_by.result
  answers =
      let file = c.as_slice-3.result.now in
      let expected = neighbour_annotation_of c.args.asked.now.how.now c.args.asked.now.additions.now file in
      subst (λ n. AnswersEdit tree (edit_by c.args.path.now n bytes
      (neighbour_annotation_of c.args.asked.now.how.now c.args.asked.now.additions.now bytes)) c.change_by.result) is
      (subst (λ xs. AnswersEdit tree (edit_by c.args.path.now c.args.neighbour.now xs
      (neighbour_annotation_of c.args.asked.now.how.now c.args.asked.now.additions.now xs)) c.change_by.result)
      (c.as_slice-3.ensures ∙ sym short.1)
      (c.change_by.ensures.edit tree expected (here ∙ ap (λ xs. Some xs) (short.1 ∙ sym c.as_slice-3.ensures))
      (omega (arith, ap length c.as_slice-3.ensures, c.in_ok-bytes.ensures.short))
      (fits_by file expected (λ edit e.
      c.text_annotations_fit.ensures.neighbours c.args.asked.now.how.now c.args.asked.now.additions.now.tags
      c.args.asked.now.additions.now.texts file edit e))
      (subst (λ xs. IsExpectedTextEdit (text_answer xs (neighbour_annotation_of c.args.asked.now.how.now
      c.args.asked.now.additions.now xs)) c.annotate_beside-made.result)
      (c.as_slice-2.ensures ∙ sym c.as_slice-3.ensures) c.annotate_beside-made.ensures)))

pub returns-in-Ok-clause-plan : goal.returns-in-Ok-clause-plan
returns-in-Ok-clause-plan c tree bytes is here reading =
    let at = (goal.at.returns-in-Ok-clause-plan c).After-change_by in
    let edit = edit_by c.args.path.now (neighbour_of c.args.path.now) bytes
    (neighbour_annotation_of c.args.asked.now.how.now c.args.asked.now.additions.now bytes) in
    subst (λ (e : PathEdit). IsPlanOf Stop tree e c.in_ok-of_change-in-Ok.field-0)
    (sym (planned at tree bytes is here reading))
    (c.in_ok-of_change-in-Ok.ensures tree edit
    (subst (AnswersEdit tree edit) c.in-Ok.is (answers at tree bytes is here reading)))

pub returns-clause-plan : goal.returns-clause-plan
returns-clause-plan c tree bytes is here reading =
    let at = (goal.at.returns-clause-plan c).After-change_by in
    let edit = edit_by c.args.path.now (neighbour_of c.args.path.now) bytes
    (neighbour_annotation_of c.args.asked.now.how.now c.args.asked.now.additions.now bytes) in
    subst (λ (e : PathEdit). IsRefusalOf e.edit c.in-Err.refusal) (sym (planned at tree bytes is here reading))
    (subst (AnswersEdit tree edit) c.in-Err.is (answers at tree bytes is here reading))
