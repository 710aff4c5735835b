use Rattle.std.proofs.Common.{◌∙◌}
use Rattle.reuse_arguments.proofs.AmendListLemmas.{turn_end, turn_on, turn_stops}
use Rattle.reuse_arguments.proofs.LineFaultLemmas.{expected_after, expected_same, mistake_same}
use Rattle.reuse_arguments.specs.AmendSteps.{all_removed, all_replaced, with_holder, with_prefix, with_until}
use Rattle.reuse_arguments.specs.declared.words.amend_words.Part.TheVariants.{Licence, Holder, Contributor}
use Rattle.reuse_arguments.proofs.words.amend_words.amend.Goals as goal

pub returns-in_err-replace_all : goal.returns-in_err-replace_all
returns-in_err-replace_all c =
    expected_after _ _ _ _ c.from_residual.ensures.1 (turn_stops
    (all_replaced Licence) _ _ _ _ _ c.values.ensures c.in_err-replace_all.ensures)

pub returns-in_err-remove_all : goal.returns-in_err-remove_all
returns-in_err-remove_all c =
    expected_after _ _ _ _ c.from_residual-in_err-remove_all.ensures.1 (mistake_same _ _ _
    (turn_on (all_replaced Licence) _ _ _ _ _ c.values.ensures c.in_ok-replace_all.ensures)
    (turn_stops (all_removed Licence) _ _ _ _ _ c.values-2.ensures c.in_err-remove_all.ensures))

pub returns-in_err-replace_all-2 : goal.returns-in_err-replace_all-2
returns-in_err-replace_all-2 c =
    expected_after _ _ _ _ c.from_residual-in_err-replace_all-2.ensures.1 (mistake_same _ _ _
    (turn_on (all_replaced Licence) _ _ _ _ _ c.values.ensures c.in_ok-replace_all.ensures
    ∙ turn_on (all_removed Licence) _ _ _ _ _ c.values-2.ensures c.in_ok-remove_all.ensures)
    (turn_stops (all_replaced Holder) _ _ _ _ _ c.values-3.ensures c.in_err-replace_all-2.ensures))

pub returns-in_err-remove_all-2 : goal.returns-in_err-remove_all-2
returns-in_err-remove_all-2 c =
    expected_after _ _ _ _ c.from_residual-in_err-remove_all-2.ensures.1 (mistake_same _ _ _
    (turn_on (all_replaced Licence) _ _ _ _ _ c.values.ensures c.in_ok-replace_all.ensures
    ∙ turn_on (all_removed Licence) _ _ _ _ _ c.values-2.ensures c.in_ok-remove_all.ensures
    ∙ turn_on (all_replaced Holder) _ _ _ _ _ c.values-3.ensures c.in_ok-replace_all-2.ensures)
    (turn_stops (all_removed Holder) _ _ _ _ _ c.values-4.ensures c.in_err-remove_all-2.ensures))

pub returns-in_err-replace_all-3 : goal.returns-in_err-replace_all-3
returns-in_err-replace_all-3 c =
    expected_after _ _ _ _ c.from_residual-in_err-replace_all-3.ensures.1 (mistake_same _ _ _
    (turn_on (all_replaced Licence) _ _ _ _ _ c.values.ensures c.in_ok-replace_all.ensures
    ∙ turn_on (all_removed Licence) _ _ _ _ _ c.values-2.ensures c.in_ok-remove_all.ensures
    ∙ turn_on (all_replaced Holder) _ _ _ _ _ c.values-3.ensures c.in_ok-replace_all-2.ensures
    ∙ turn_on (all_removed Holder) _ _ _ _ _ c.values-4.ensures c.in_ok-remove_all-2.ensures)
    (turn_stops (all_replaced Contributor) _ _ _ _ _ c.values-5.ensures c.in_err-replace_all-3.ensures))

pub returns-in_err-remove_all-3 : goal.returns-in_err-remove_all-3
returns-in_err-remove_all-3 c =
    expected_after _ _ _ _ c.from_residual-in_err-remove_all-3.ensures.1 (mistake_same _ _ _
    (turn_on (all_replaced Licence) _ _ _ _ _ c.values.ensures c.in_ok-replace_all.ensures
    ∙ turn_on (all_removed Licence) _ _ _ _ _ c.values-2.ensures c.in_ok-remove_all.ensures
    ∙ turn_on (all_replaced Holder) _ _ _ _ _ c.values-3.ensures c.in_ok-replace_all-2.ensures
    ∙ turn_on (all_removed Holder) _ _ _ _ _ c.values-4.ensures c.in_ok-remove_all-2.ensures
    ∙ turn_on (all_replaced Contributor) _ _ _ _ _ c.values-5.ensures c.in_ok-replace_all-3.ensures)
    (turn_stops (all_removed Contributor) _ _ _ _ _ c.values-6.ensures c.in_err-remove_all-3.ensures))

pub returns-in_err-set_until : goal.returns-in_err-set_until
returns-in_err-set_until c =
    expected_after _ _ _ _ c.from_residual-in_err-set_until.ensures.1 (mistake_same _ _ _
    (turn_on (all_replaced Licence) _ _ _ _ _ c.values.ensures c.in_ok-replace_all.ensures
    ∙ turn_on (all_removed Licence) _ _ _ _ _ c.values-2.ensures c.in_ok-remove_all.ensures
    ∙ turn_on (all_replaced Holder) _ _ _ _ _ c.values-3.ensures c.in_ok-replace_all-2.ensures
    ∙ turn_on (all_removed Holder) _ _ _ _ _ c.values-4.ensures c.in_ok-remove_all-2.ensures
    ∙ turn_on (all_replaced Contributor) _ _ _ _ _ c.values-5.ensures c.in_ok-replace_all-3.ensures
    ∙ turn_on (all_removed Contributor) _ _ _ _ _ c.values-6.ensures c.in_ok-remove_all-3.ensures)
    (turn_stops with_until _ _ _ _ _ c.value.ensures c.in_err-set_until.ensures))

pub returns-in_err-set_prefix : goal.returns-in_err-set_prefix
returns-in_err-set_prefix c =
    expected_after _ _ _ _ c.from_residual-in_err-set_prefix.ensures.1 (mistake_same _ _ _
    (turn_on (all_replaced Licence) _ _ _ _ _ c.values.ensures c.in_ok-replace_all.ensures
    ∙ turn_on (all_removed Licence) _ _ _ _ _ c.values-2.ensures c.in_ok-remove_all.ensures
    ∙ turn_on (all_replaced Holder) _ _ _ _ _ c.values-3.ensures c.in_ok-replace_all-2.ensures
    ∙ turn_on (all_removed Holder) _ _ _ _ _ c.values-4.ensures c.in_ok-remove_all-2.ensures
    ∙ turn_on (all_replaced Contributor) _ _ _ _ _ c.values-5.ensures c.in_ok-replace_all-3.ensures
    ∙ turn_on (all_removed Contributor) _ _ _ _ _ c.values-6.ensures c.in_ok-remove_all-3.ensures
    ∙ turn_on with_until _ _ _ _ _ c.value.ensures c.in_ok-set_until.ensures)
    (turn_stops with_prefix _ _ _ _ _ c.value-2.ensures c.in_err-set_prefix.ensures))

pub returns : goal.returns
returns c =
    expected_same _ _ _ _
    (turn_on (all_replaced Licence) _ _ _ _ _ c.values.ensures c.in_ok-replace_all.ensures
    ∙ turn_on (all_removed Licence) _ _ _ _ _ c.values-2.ensures c.in_ok-remove_all.ensures
    ∙ turn_on (all_replaced Holder) _ _ _ _ _ c.values-3.ensures c.in_ok-replace_all-2.ensures
    ∙ turn_on (all_removed Holder) _ _ _ _ _ c.values-4.ensures c.in_ok-remove_all-2.ensures
    ∙ turn_on (all_replaced Contributor) _ _ _ _ _ c.values-5.ensures c.in_ok-replace_all-3.ensures
    ∙ turn_on (all_removed Contributor) _ _ _ _ _ c.values-6.ensures c.in_ok-remove_all-3.ensures
    ∙ turn_on with_until _ _ _ _ _ c.value.ensures c.in_ok-set_until.ensures
    ∙ turn_on with_prefix _ _ _ _ _ c.value-2.ensures c.in_ok-set_prefix.ensures
    ∙ turn_end with_holder _ _ _ c.value-3.ensures)
    c.set_holder.ensures
