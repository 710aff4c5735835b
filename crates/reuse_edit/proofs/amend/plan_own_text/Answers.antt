use Rattle.std.proofs.Common.{sym, subst, Option}
use Rattle.reuse_style.specs.declared.style.Style.{Style}
use Rattle.reuse_command.specs.Command.{values_of}
use Rattle.reuse_command.specs.declared.command.FileAmendment.{FileAmendment}
use Rattle.reuse_edit.specs.Amend.{amend_block, amend_own_text, remove_block}
use Rattle.reuse_edit.specs.AmendmentPlan.{AnswersValues, own_of}
use Rattle.reuse_edit.proofs.amend.plan_own_text.Goals as goal

pub returns-in-InHeader-clause-edit : goal.returns-in-InHeader-clause-edit
returns-in-InHeader-clause-edit c tree here =
    let asked = c.args.asked.now in
    let path = c.args.path.now in
    let bytes = c.args.bytes.now in
    let values = c.in-InHeader.values in
    subst (λ (a : FileAmendment). AnswersValues (values_of a) tree bytes
    (amend_own_text a asked.scope.now (own_of asked) path bytes) c.plan_header.result) (sym c.in-InHeader.is)
    (subst (λ (style : Option Style). AnswersValues values tree bytes (amend_block values path bytes style)
    c.plan_header.result) c.style_of.ensures (c.plan_header.ensures.edit tree here))

pub returns-in-Everywhere-clause-edit : goal.returns-in-Everywhere-clause-edit
returns-in-Everywhere-clause-edit c tree here =
    let asked = c.args.asked.now in
    let path = c.args.path.now in
    let bytes = c.args.bytes.now in
    subst (λ (a : FileAmendment). AnswersValues (values_of a) tree bytes
    (amend_own_text a asked.scope.now (own_of asked) path bytes) c.plan_text.result) (sym c.in-Everywhere.is)
    (c.plan_text.ensures.edit tree here)

pub returns-in-Remove-clause-edit : goal.returns-in-Remove-clause-edit
returns-in-Remove-clause-edit c tree here =
    let asked = c.args.asked.now in
    let path = c.args.path.now in
    let bytes = c.args.bytes.now in
    let values = c.in-Remove.values in
    let removal = c.in-Remove.removal in
    subst (λ (a : FileAmendment). AnswersValues (values_of a) tree bytes
    (amend_own_text a asked.scope.now (own_of asked) path bytes) c.plan_left_inside.result) (sym c.in-Remove.is)
    (subst (λ (style : Option Style). AnswersValues values tree bytes (remove_block values removal path bytes style)
    c.plan_left_inside.result) c.style_of-style.ensures (c.plan_left_inside.ensures.edit tree here))
