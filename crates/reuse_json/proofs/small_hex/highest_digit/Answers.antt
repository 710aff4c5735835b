use Rattle.std.proofs.Common.{◌<◌, refl, arith}
use Rattle.hex.specs.Hex.{encode_with}
use Rattle.reuse_json.proofs.SmallDigits.{one_more_byte}
use Rattle.reuse_json.proofs.small_hex.highest_digit.Goals as goal

pub loop-i-init : goal.loop-i-init
unfolding encode_with
loop-i-init c = λ _. refl

pub loop-i-preserved : goal.loop-i-preserved
loop-i-preserved c = λ below.
    let high : c.digit_value-high.result < 16 =
    omega (arith, below, c.larger-highest.ensures.second, c.larger.ensures.first) in
    let low : c.digit_value-low.result < 16 =
    omega (arith, below, c.larger-highest.ensures.second, c.larger.ensures.second) in
    one_more_byte c.args.digits.now c.loop-i.bytes c.loop-i.i c.digit_value-high.result c.digit_value-low.result
    (omega (arith, c.requires, c.loop-i.auto.bytes)) (omega (arith, c.loop-i-test.true, c.loop-i.auto.bytes)) high low
    (c.digit_value-high.ensures.digit high)
    (c.digit_value-low.ensures.digit low)
    (c.loop-i.invariant (omega (arith, below, c.larger-highest.ensures.first)))
