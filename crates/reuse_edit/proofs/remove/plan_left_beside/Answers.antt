use Rattle.std.proofs.Common.{sym, ap, subst}
use Rattle.reuse_edit.specs.Amend.{removal_edit}
use Rattle.reuse_edit.specs.AmendmentPlan.{AnswersValues}
use Rattle.reuse_edit.specs.Removed.{left_beside}
use Rattle.reuse_edit.proofs.AbsentFiles.{refusal_passes}
use Rattle.reuse_edit.proofs.remove.plan_left_beside.Goals as goal

pub returns-in-Ok-clause-edit : goal.returns-in-Ok-clause-edit
returns-in-Ok-clause-edit c tree here =
    let at = c.args.neighbour.now in
    let bytes = c.args.bytes.now in
    subst (λ given. AnswersValues c.args.values.now tree bytes given c.give_way.result)
    (sym (ap (removal_edit at bytes) c.in-Ok.ensures.text)) (c.give_way.ensures.edit tree here)

pub returns-in-Err-clause-edit : goal.returns-in-Err-clause-edit
returns-in-Err-clause-edit c tree here =
    let at = c.args.neighbour.now in
    let bytes = c.args.bytes.now in
    let given = left_beside c.args.values.now c.args.removal.now c.args.path.now bytes in
    refusal_passes given (removal_edit at bytes given) (λ r e. ap (removal_edit at bytes) e) c.in-Err.refusal
    c.in-Err.ensures.text
