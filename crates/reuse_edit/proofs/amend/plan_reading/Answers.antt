use Rattle.std.proofs.Common.{◌≡◌, ℕ, List, length, Some, true, false, sym, ap, subst, ◌∙◌, arith}
use Rattle.reuse_header.specs.Neighbour.{is_text}
use Rattle.reuse_header.proofs.NeighbourLemmas.{text-test}
use Rattle.reuse_command.specs.Command.{values_of}
use Rattle.reuse_edit.specs.AmendmentPlan.{AnswersText, names_behind, own_text_by}
use Rattle.reuse_edit.proofs.AmendmentEdits.{inside_is}
use Rattle.reuse_edit.proofs.EditLemmas.{short_is}
use Rattle.reuse_edit.proofs.LeftLemmas.{no_text_left}
use Rattle.reuse_edit.proofs.amend.plan_reading.Goals as goal

pub returns-then-not-is_text-clause-edit : goal.returns-then-not-is_text-clause-edit
returns-then-not-is_text-clause-edit c tree bytes here read reading =
    let short = short_is c.args.path.now bytes c.in_ok-bytes.bytes (c.in_ok-bytes.ensures.answer bytes reading) in
    let a = values_of c.args.asked.now.amendment.now in
    let text = ap is_text (short.1 ∙ sym c.as_slice.ensures)
    ∙ sym (text-test c.as_slice.result.now c.is_text.result c.is_text.ensures) ∙ c.if-not-is_text.true in
    let at = inside_is c.args.asked.now c.args.path.now bytes false read short.0 text in
    (at, sym (ap (names_behind a bytes) at ∙ no_text_left a bytes text))

pub plan_own_text-requires : goal.plan_own_text-requires
plan_own_text-requires c = omega (arith, ap length c.as_slice-2.ensures, c.in_ok-bytes.ensures.short)

pub returns-clause-edit : goal.returns-clause-edit
returns-clause-edit c tree bytes here read reading =
    let asked = c.args.asked.now in
    let path = c.args.path.now in
    let short = short_is path bytes c.in_ok-bytes.bytes (c.in_ok-bytes.ensures.answer bytes reading) in
    let at = inside_is asked path bytes true read short.0
    (ap is_text (short.1 ∙ sym c.as_slice.ensures)
    ∙ sym (text-test c.as_slice.result.now c.is_text.result c.is_text.ensures) ∙ c.if-not-is_text.false) in
    let same : c.as_slice-2.result.now ≡ bytes = c.as_slice-2.ensures ∙ sym short.1 in
    subst (λ r. AnswersText asked tree bytes r c.plan_own_text.result) (sym at)
    (subst (λ (xs : List ℕ). AnswersText asked tree xs (own_text_by asked path xs) c.plan_own_text.result) same
    (c.plan_own_text.ensures.edit tree (here ∙ ap (λ (xs : List ℕ). Some xs) (sym same))))
