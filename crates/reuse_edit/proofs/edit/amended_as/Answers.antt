use Rattle.std.proofs.Common.{◌≡◌, ◌≤◌, length, Some, Ok, sym, subst, ap, ◌∙◌}
use Rattle.reuse_text.specs.declared.TheConstants.{LONGEST_FILE}
use Rattle.reuse_command.specs.Reading.{get, Files}
use Rattle.reuse_header.specs.Amendment.{amendment_answer, IsExpectedAmendment}
use Rattle.reuse_header.specs.Splices.{splice_of}
use Rattle.reuse_edit.specs.Amend.{amendment_edit}
use Rattle.reuse_edit.specs.AmendmentPlan as amending
use Rattle.reuse_edit.specs.AmendmentPlan.{Fits}
use Rattle.reuse_edit.specs.Answered.{IsRefusalOf, AnswersEdit}
use Rattle.reuse_edit.proofs.AmendmentEdits.{none_made, some_made, refused_made}
use Rattle.reuse_edit.proofs.LeftLemmas.{names_changed, names_same}
use Rattle.reuse_edit.proofs.Results.{same_Ok}
use Rattle.reuse_edit.proofs.edit.amended_as.Goals as goal
use Rattle.reuse_edit.proofs.edit.amended_as.Goals.{After-change_by}

pub returns-in-Ok-None-clause-edit : goal.returns-in-Ok-None-clause-edit
returns-in-Ok-None-clause-edit c tree expected here short fits answer =
    let file = c.args.file.now in
    let given = subst (IsExpectedAmendment (amendment_answer file expected))
    (c.in-Ok-None.is ∙ ap (λ o. Ok o) c.in-Ok-None.field-0-is) answer in (
      none_made c.args.path.now c.args.at.now file expected given,
      c.still_names.ensures ∙ names_same c.args.amendments.now c.args.path.now c.args.at.now file expected given,
    )

-- what the change of the file answers
module _ (c : After-change_by) (expected : amending.Expected) (tree : Files)
    (here : get tree c.args.at.now ≡ Some c.args.file.now) (short : length c.args.file.now ≤ LONGEST_FILE)
    (fits : Fits c.args.file.now expected)
    (answer : IsExpectedAmendment (amendment_answer c.args.file.now expected) c.args.made) where
  given : amendment_answer c.args.file.now expected ≡ Ok (Some c.in-Ok-Some.splice)
  given = subst (IsExpectedAmendment (amendment_answer c.args.file.now expected))
      (c.in-Ok-Some.is ∙ ap (λ o. Ok o) c.in-Ok-Some.field-0-is) answer

  answers : AnswersEdit tree (amendment_edit c.args.path.now c.args.at.now c.args.file.now expected) c.change_by.result
  answers =
      let file = c.args.file.now in
      let made = some_made file expected c.in-Ok-Some.splice given in
      let same =
      same_Ok (splice_of file made.0) (Some c.in-Ok-Some.splice) (ap (amendment_answer file) (sym made.1) ∙ given) in
      subst (λ d. AnswersEdit tree (amendment_edit c.args.path.now c.args.at.now file d) c.change_by.result) (sym made.1)
      (c.change_by.ensures.edit tree (Ok made.0) here short (subst (Fits file) made.1 fits) (ap (λ o. Ok o) same))

pub returns-in-Ok-clause-edit : goal.returns-in-Ok-clause-edit
returns-in-Ok-clause-edit c tree expected here short fits answer =
    let at = (goal.at.returns-in-Ok-clause-edit c).After-change_by in (
      subst (AnswersEdit tree (amendment_edit c.args.path.now c.args.at.now c.args.file.now expected)) c.in-Ok.is
          (answers at expected tree here short fits answer),
      c.in_ok-is_left-in-Ok-Some.ensures ∙ names_changed c.args.amendments.now c.args.path.now c.args.at.now
          c.args.file.now expected c.in-Ok-Some.splice fits (given at expected tree here short fits answer),
    )

pub returns-in-Err-change_by-clause-edit : goal.returns-in-Err-change_by-clause-edit
returns-in-Err-change_by-clause-edit c tree expected here short fits answer =
    let at = (goal.at.returns-in-Err-change_by-clause-edit c).After-change_by in
    subst (AnswersEdit tree (amendment_edit c.args.path.now c.args.at.now c.args.file.now expected))
    c.in-Err-change_by.is (answers at expected tree here short fits answer)

pub returns-in_ok-amend_refused_by-in-Err-clause-edit : goal.returns-in_ok-amend_refused_by-in-Err-clause-edit
returns-in_ok-amend_refused_by-in-Err-clause-edit c tree expected here short fits answer =
    let given = subst (IsExpectedAmendment (amendment_answer c.args.file.now expected)) c.in-Err.is answer in
    subst (IsRefusalOf (amendment_edit c.args.path.now c.args.at.now c.args.file.now expected))
    (sym c.in_ok-amend_refused_by-in-Err.ensures)
    (refused_made c.args.path.now c.args.at.now c.args.file.now expected c.in-Err.refusal given)
