use Rattle.std.proofs.Common.{◌≡◌, ◌*◌, ◌+◌, ◌<◌, ◌^◌, ℕ, arith, decimal, sym, subst, take}
use Rattle.reuse_json.proofs.WrittenTexts.{first_digit, next_digit}
use Rattle.reuse_json.proofs.written_text.number_in.Goals as goal

pub loop-digit-init : goal.loop-digit-init
loop-digit-init c =
    let first = c.in_ok-number.ensures in (
      omega (arith, first.within),
      first_digit c.args.text.now c.in_ok-number.number first.within first.bound first.digit,
    )

pub loop-digit-preserved : goal.loop-digit-preserved
loop-digit-preserved c =
    let next = c.in-Some.ensures in
    let number = c.loop-digit.number in
    let digit = c.in-Some.digit in
    let value : c.in_ok-number-2.number ≡ number * 10 + digit =
    omega (arith, c.in_ok-checked_mul.ensures, c.in_ok-number-2.ensures) in
    let fits : number * 10 + digit < 2 ^ 64 = omega (arith, c.in_ok-checked_mul.ensures, c.in_ok-number-2.ensures) in
    let some : 0 < number = omega (arith, c.if-number-eq0.false) in (
      omega (arith, next.within),
      subst (λ (n : ℕ). take (c.loop-digit.len + 1) c.args.text.now ≡ decimal n) (sym value)
          (next_digit c.args.text.now c.loop-digit.len number digit next.within next.bound next.digit some fits
          c.loop-digit.invariant.1),
    )
