use Rattle.std.proofs.Common.{rules, subst}
use Rattle.reuse_header.specs.Amendment.{neighbour_amendment_of, amendment_answer, IsExpectedAmendment}
use Rattle.reuse_edit.specs.AmendmentPlan.{Fits}
use Rattle.reuse_edit.proofs.AmendmentEdits.{fits_amendment}
use Rattle.reuse_edit.proofs.LeftLemmas.{made_within}
use Rattle.reuse_edit.proofs.amend.plan_written.Goals as goal
use Rattle.reuse_edit.proofs.amend.plan_written.Goals.{After-amend_neighbour-made}

-- what amending makes of the neighbour's bytes fits them
module _ (c : After-amend_neighbour-made) where
  fits : Fits c.args.bytes.now (neighbour_amendment_of c.args.values.now c.args.bytes.now)
  fits =
      fits_amendment c.args.bytes.now
      (neighbour_amendment_of c.args.values.now c.args.bytes.now)
      (λ edit e. c.amendments_fit.ensures.neighbours c.args.values.now c.args.bytes.now edit e)

pub amended_as-requires : goal.amended_as-requires
amended_as-requires c =
    let at = (goal.at.amended_as-requires c).After-amend_neighbour-made in
    let bytes = c.args.bytes.now in
    let expected = neighbour_amendment_of c.args.values.now bytes in
    made_within bytes expected c.amend_neighbour-made.result c.requires (fits at)
    (λ splice e. subst (IsExpectedAmendment (amendment_answer bytes expected)) e (search rules))

pub returns-clause-edit : goal.returns-clause-edit
returns-clause-edit c tree here =
    let at = (goal.at.returns-clause-edit c).After-amend_neighbour-made in
    c.amended_as.ensures.edit tree
    (neighbour_amendment_of c.args.values.now c.args.bytes.now) here c.requires (fits at)
    (search rules)
