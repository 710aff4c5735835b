use Rattle.std.proofs.Common.{rules, subst}
use Rattle.reuse_header.specs.Amendment.{amendment_of, amendment_answer, IsExpectedAmendment}
use Rattle.reuse_edit.specs.AmendmentPlan.{Fits}
use Rattle.reuse_edit.proofs.AmendmentEdits.{fits_amendment}
use Rattle.reuse_edit.proofs.LeftLemmas.{made_within}
use Rattle.reuse_edit.proofs.remove.amended_inside.Goals as goal
use Rattle.reuse_edit.proofs.remove.amended_inside.Goals.{After-amend_file-made}

-- what amending makes of these bytes fits them
module _ (c : After-amend_file-made) where
  fits : Fits c.args.bytes.now (amendment_of c.args.style.now c.args.values.now c.args.bytes.now)
  fits =
      fits_amendment c.args.bytes.now (amendment_of c.args.style.now c.args.values.now c.args.bytes.now)
      (λ edit e. c.amendments_fit.ensures.files c.args.style.now c.args.values.now c.args.bytes.now edit e)

pub amended_text-requires-clause-within : goal.amended_text-requires-clause-within
amended_text-requires-clause-within c =
    let at = (goal.at.amended_text-requires-clause-within c).After-amend_file-made in
    let bytes = c.args.bytes.now in
    let expected = amendment_of c.args.style.now c.args.values.now c.args.bytes.now in
    made_within bytes expected c.amend_file-made.result c.requires (fits at)
    (λ splice e. subst (IsExpectedAmendment (amendment_answer bytes expected)) e (search rules))

pub returns-clause-text : goal.returns-clause-text
returns-clause-text c =
    let at = (goal.at.returns-clause-text c).After-amend_file-made in
    c.amended_text.ensures.text (amendment_of c.args.style.now c.args.values.now c.args.bytes.now) (fits at) (search rules)
