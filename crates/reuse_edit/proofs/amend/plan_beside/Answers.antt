use Rattle.std.proofs.Common.{ℕ, List, cond, not, sym, ap, subst, ◌∙◌}
use Rattle.reuse_header.proofs.NeighbourLemmas.{text-test}
use Rattle.reuse_header.specs.Amendment.{neighbour_amendment_of}
use Rattle.reuse_command.specs.Command.{values_of}
use Rattle.reuse_command.specs.declared.command.FileAmendment.{FileAmendment}
use Rattle.reuse_command.specs.declared.header_fault.HeaderFault.TheVariants as faults
use Rattle.reuse_command.specs.declared.reply.Refusal.TheVariants as refusals
use Rattle.reuse_edit.specs.Amend.{amend_beside, amend_text, amendment_edit, removal_edit}
use Rattle.reuse_edit.specs.Removed.{left_beside}
use Rattle.reuse_edit.specs.AmendmentPlan.{AnswersValues}
use Rattle.reuse_edit.specs.Annotate.{neighbour_of}
use Rattle.reuse_edit.proofs.EditLemmas.{refused}
use Rattle.reuse_edit.proofs.amend.plan_beside.Goals as goal

pub returns-in-InHeader-clause-edit : goal.returns-in-InHeader-clause-edit
returns-in-InHeader-clause-edit c tree is here =
    let path = c.args.path.now in
    let bytes = c.args.bytes.now in
    let values = c.in-InHeader.values in
    subst (λ (a : FileAmendment). AnswersValues (values_of a) tree bytes (amend_beside a path bytes)
    c.plan_written.result) (sym c.in-InHeader.is)
    (subst (λ (n : List ℕ). AnswersValues values tree bytes
    (amendment_edit path n bytes (neighbour_amendment_of values bytes)) c.plan_written.result) is
    (c.plan_written.ensures.edit tree here))

pub returns-then-not-is_text-clause-edit : goal.returns-then-not-is_text-clause-edit
returns-then-not-is_text-clause-edit c tree is here =
    let path = c.args.path.now in
    let bytes = c.args.bytes.now in
    ap (λ (a : FileAmendment). amend_beside a path bytes) c.in-Everywhere.is
    ∙ ap (λ b. cond (not b) (refused (refusals.Header path faults.NotText))
    (amend_text c.in-Everywhere.values path (neighbour_of path) bytes))
    (sym (text-test bytes c.is_text.result c.is_text.ensures) ∙ c.if-not-is_text.true)
    ∙ ap (λ p. refused (refusals.Header p faults.NotText)) (sym c.in_ok-path-in-Everywhere.ensures)

pub returns-else-not-is_text-clause-edit : goal.returns-else-not-is_text-clause-edit
returns-else-not-is_text-clause-edit c tree is here =
    let path = c.args.path.now in
    let bytes = c.args.bytes.now in
    let values = c.in-Everywhere.values in
    let text = sym (text-test bytes c.is_text.result c.is_text.ensures) ∙ c.if-not-is_text.false in
    subst (λ (a : FileAmendment). AnswersValues (values_of a) tree bytes (amend_beside a path bytes) c.plan_text.result)
    (sym c.in-Everywhere.is)
    (subst (λ b. AnswersValues values tree bytes (cond (not b) (refused (refusals.Header path faults.NotText))
    (amend_text values path (neighbour_of path) bytes)) c.plan_text.result) (sym text)
    (subst (λ (n : List ℕ). AnswersValues values tree bytes (amend_text values path n bytes) c.plan_text.result) is
    (c.plan_text.ensures.edit tree here)))

pub returns-in-Remove-clause-edit : goal.returns-in-Remove-clause-edit
returns-in-Remove-clause-edit c tree is here =
    let path = c.args.path.now in
    let bytes = c.args.bytes.now in
    let values = c.in-Remove.values in
    let removal = c.in-Remove.removal in
    subst (λ (a : FileAmendment). AnswersValues (values_of a) tree bytes (amend_beside a path bytes)
    c.plan_left_beside.result) (sym c.in-Remove.is)
    (subst (λ (n : List ℕ). AnswersValues values tree bytes
    (removal_edit n bytes (left_beside values removal path bytes)) c.plan_left_beside.result) is
    (c.plan_left_beside.ensures.edit tree here))
