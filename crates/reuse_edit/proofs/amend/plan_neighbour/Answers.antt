use Rattle.std.proofs.Common.{◌≡◌, ℕ, List, length, Some, sym, ap, subst, ◌∙◌, arith}
use Rattle.reuse_edit.specs.Amend.{amend_beside}
use Rattle.reuse_edit.specs.AmendmentPlan.{AnswersText}
use Rattle.reuse_edit.proofs.AmendmentEdits.{beside_is}
use Rattle.reuse_edit.proofs.EditLemmas.{short_is}
use Rattle.reuse_edit.proofs.amend.plan_neighbour.Goals as goal

pub plan_beside-requires : goal.plan_beside-requires
plan_beside-requires c = omega (arith, ap length c.as_slice.ensures, c.in_ok-bytes.ensures.short)

pub returns-clause-edit : goal.returns-clause-edit
returns-clause-edit c tree bytes is few here reading =
    let asked = c.args.asked.now in
    let path = c.args.path.now in
    let short = short_is path bytes c.in_ok-bytes.bytes (c.in_ok-bytes.ensures.answer bytes reading) in
    let same : c.as_slice.result.now ≡ bytes = c.as_slice.ensures ∙ sym short.1 in
    subst (λ r. AnswersText asked tree bytes r c.plan_beside.result) (sym (beside_is asked path bytes few short.0))
    (subst (λ (xs : List ℕ). AnswersText asked tree xs (amend_beside asked.amendment.now path xs) c.plan_beside.result)
    same (c.plan_beside.ensures.edit tree is (here ∙ ap (λ (xs : List ℕ). Some xs) (sym same))))
