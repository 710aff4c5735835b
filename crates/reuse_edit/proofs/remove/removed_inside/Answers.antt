use Rattle.std.proofs.Common.{ℕ, List, sym, ap, subst}
use Rattle.reuse_header.specs.Amendment.{amended_file, amendment_of}
use Rattle.reuse_edit.specs.Answered.{AnswersOf}
use Rattle.reuse_edit.specs.Removed.{amended_or_refused, in_turn, left_inside, or_refused, removal_of, text_left}
use Rattle.reuse_edit.proofs.AbsentFiles.{refusal_passes}
use Rattle.reuse_edit.proofs.remove.removed_inside.Goals as goal

pub returns-in-Ok-clause-text : goal.returns-in-Ok-clause-text
returns-in-Ok-clause-text c =
    let path = c.args.path.now in
    let next = λ (made : List ℕ).
    or_refused path (text_left made (removal_of c.args.removal.now c.args.style.now made)) in
    subst (λ given. AnswersOf given c.left_inside.result) (sym (ap (in_turn next) c.in-Ok.ensures.text))
    (subst (λ (xs : List ℕ). AnswersOf (next xs) c.left_inside.result) c.as_slice.ensures c.left_inside.ensures.text)

pub returns-in-Err-clause-text : goal.returns-in-Err-clause-text
returns-in-Err-clause-text c =
    let path = c.args.path.now in
    let bytes = c.args.bytes.now in
    let next = λ (made : List ℕ).
    or_refused path (text_left made (removal_of c.args.removal.now c.args.style.now made)) in
    refusal_passes
    (amended_or_refused path (amended_file bytes (amendment_of c.args.style.now c.args.values.now bytes)))
    (left_inside c.args.values.now c.args.removal.now c.args.style.now path bytes)
    (λ r e. ap (in_turn next) e) c.in-Err.refusal c.in-Err.ensures.text
