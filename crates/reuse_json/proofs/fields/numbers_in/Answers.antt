use Rattle.std.proofs.Common.{sym, ◌∙◌}
use Rattle.std.proofs.lemmas.Result.{err_from_is_err_and}
use Rattle.reuse_json.specs.JsonReading.{small_in}
use Rattle.reuse_json.proofs.JsonParts.{one_more, one_refused, all_read, refusal_passes}
use Rattle.reuse_json.proofs.fields.numbers_in.Goals as goal

pub returns-in_err-small_of : goal.returns-in_err-small_of
returns-in_err-small_of c =
    let p = err_from_is_err_and c.from_residual-in_err-small_of.result c.from_residual-in_err-small_of.ensures.1 in
    rw (p.1, p.2)
    (refusal_passes c.in_err-small_of.field-0.0 _ _
    (λ none. sym c.loop-value.invariant ∙ one_refused small_in c.args.values.now c.loop-value.numbers.items c.loop-value.value-index c.value-item.result c.loop-value-test.true c.value-item.is none)
    c.in_err-small_of.ensures.value)

pub loop-value-preserved : goal.loop-value-preserved
loop-value-preserved c =
    rw c.in_ok-push.ensures.items
    (sym (one_more small_in c.args.values.now c.loop-value.numbers.items c.loop-value.value-index c.value-item.result c.in_ok-small_of.field-0 c.loop-value-test.true c.value-item.is c.in_ok-small_of.ensures.value)
    ∙ c.loop-value.invariant)

pub returns : goal.returns
returns c = sym c.loop-value.invariant ∙ all_read small_in c.args.values.now c.loop-value.numbers.items c.loop-value.value-index c.loop-value-test.false
