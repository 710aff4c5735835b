use Rattle.std.proofs.Common.{ℕ, List, sym, ap, subst}
use Rattle.reuse_header.specs.Amendment.{amended_file, neighbour_amendment_of}
use Rattle.reuse_edit.specs.Answered.{AnswersOf}
use Rattle.reuse_edit.specs.Removed.{amended_or_refused, in_turn, left_beside, neighbour_left, neighbour_removal_of}
use Rattle.reuse_edit.specs.Removed.{or_refused}
use Rattle.reuse_edit.proofs.AbsentFiles.{refusal_passes}
use Rattle.reuse_edit.proofs.remove.removed_beside.Goals as goal

pub returns-in-Ok-clause-text : goal.returns-in-Ok-clause-text
returns-in-Ok-clause-text c =
    let path = c.args.path.now in
    let next = λ (made : List ℕ).
    or_refused path (neighbour_left made (neighbour_removal_of c.args.removal.now made)) in
    subst (λ given. AnswersOf given c.left_beside.result) (sym (ap (in_turn next) c.in-Ok.ensures.text))
    (subst (λ (xs : List ℕ). AnswersOf (next xs) c.left_beside.result) c.as_slice.ensures c.left_beside.ensures.text)

pub returns-in-Err-clause-text : goal.returns-in-Err-clause-text
returns-in-Err-clause-text c =
    let path = c.args.path.now in
    let bytes = c.args.bytes.now in
    let next = λ (made : List ℕ).
    or_refused path (neighbour_left made (neighbour_removal_of c.args.removal.now made)) in
    refusal_passes (amended_or_refused path (amended_file bytes (neighbour_amendment_of c.args.values.now bytes)))
    (left_beside c.args.values.now c.args.removal.now path bytes)
    (λ r e. ap (in_turn next) e) c.in-Err.refusal c.in-Err.ensures.text
