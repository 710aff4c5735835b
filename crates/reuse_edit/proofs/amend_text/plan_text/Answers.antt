use Rattle.std.proofs.Common.{◌≡◌, ◌∙◌, ℕ, List, Option, Some, Err, sym, ap, subst}
use Rattle.reuse_tags.specs.Everywhere.{amended_everywhere}
use Rattle.reuse_amend.specs.declared.amendments.AmendRefusal.{AmendRefusal}
use Rattle.reuse_amend.specs.declared.amendments.AmendRefusal.TheVariants.{BadExpression, Memory}
use Rattle.reuse_amend.specs.AmendmentViews.{IsAnswer}
use Rattle.reuse_edit.specs.Amend.{tags_refused_by, text_edit}
use Rattle.reuse_edit.specs.AmendmentPlan.{AnswersValues}
use Rattle.reuse_edit.specs.Answered.{IsRefusalOf}
use Rattle.reuse_edit.proofs.amend_text.plan_text.Goals as goal

pub returns-in-Ok-clause-edit : goal.returns-in-Ok-clause-edit
returns-in-Ok-clause-edit c tree here =
    let path = c.args.path.now in
    let bytes = c.args.bytes.now in
    let values = c.args.values.now in
    let made : amended_everywhere values bytes ≡ Some c.as_slice.result.now =
    c.in-Ok.ensures ∙ ap (λ (xs : List ℕ). Some xs) (sym c.as_slice.ensures) in
    subst (λ (o : Option (List ℕ)). AnswersValues values tree bytes (text_edit path c.args.at.now bytes o)
    c.exchange.result) (sym made) (c.exchange.ensures.edit tree here)

-- the refusal is that of the text
refused_text : (path at bytes : List ℕ) (made : Option (List ℕ)) (refusal : AmendRefusal)
    → IsAnswer {X = List ℕ} made (Err refusal)
    → IsRefusalOf (text_edit path at bytes made) (tags_refused_by path refusal)
refused_text path at bytes made BadExpression is = ap (text_edit path at bytes) is
refused_text path at bytes made (Memory e) is = tt

pub returns-in_ok-tags_refused_by-in-Err-clause-edit : goal.returns-in_ok-tags_refused_by-in-Err-clause-edit
returns-in_ok-tags_refused_by-in-Err-clause-edit c tree here =
    let path = c.args.path.now in
    let made = amended_everywhere c.args.values.now c.args.bytes.now in
    subst (IsRefusalOf (text_edit path c.args.at.now c.args.bytes.now made))
    (sym c.in_ok-tags_refused_by-in-Err.ensures)
    (refused_text path c.args.at.now c.args.bytes.now made c.in-Err.refusal c.in-Err.ensures)
