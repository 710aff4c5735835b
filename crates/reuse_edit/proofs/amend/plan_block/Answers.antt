use Rattle.std.proofs.Common.{rules, subst}
use Rattle.reuse_header.specs.Amendment.{amendment_of, amendment_answer, IsExpectedAmendment}
use Rattle.reuse_edit.specs.AmendmentPlan.{Fits}
use Rattle.reuse_edit.proofs.AmendmentEdits.{fits_amendment}
use Rattle.reuse_edit.proofs.LeftLemmas.{made_within}
use Rattle.reuse_edit.proofs.amend.plan_block.Goals as goal
use Rattle.reuse_edit.proofs.amend.plan_block.Goals.{After-amend_file-made}

-- what amending makes of the file fits it
module _ (c : After-amend_file-made) where
  fits : Fits c.args.bytes.now (amendment_of c.args.style.now c.args.values.now c.args.bytes.now)
  fits =
      fits_amendment c.args.bytes.now
      (amendment_of c.args.style.now c.args.values.now c.args.bytes.now)
      (λ edit e. c.amendments_fit.ensures.files c.args.style.now c.args.values.now c.args.bytes.now edit e)

pub amended_as-requires : goal.amended_as-requires
amended_as-requires c =
    let at = (goal.at.amended_as-requires c).After-amend_file-made in
    let bytes = c.args.bytes.now in
    let expected = amendment_of c.args.style.now c.args.values.now bytes in
    made_within bytes expected c.amend_file-made.result c.requires (fits at)
    (λ splice e. subst (IsExpectedAmendment (amendment_answer bytes expected)) e (search rules))

pub returns-clause-edit : goal.returns-clause-edit
returns-clause-edit c tree here =
    let at = (goal.at.returns-clause-edit c).After-amend_file-made in
    c.amended_as.ensures.edit tree
    (amendment_of c.args.style.now c.args.values.now c.args.bytes.now) here c.requires (fits at)
    (search rules)
