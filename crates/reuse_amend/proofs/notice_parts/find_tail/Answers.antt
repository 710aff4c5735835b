use Rattle.std.proofs.Common.{◌≡◌, ◌+◌, ◌-◌, ◌∙◌, sym, ap, arith, suc}
use Rattle.std.specs.Prelude.{option_map}
use Rattle.reuse_amend.proofs.TailLemmas.{tail-zero, tail-stop, tail-more}
use Rattle.reuse_amend.proofs.notice_parts.find_tail.Goals as goal

pub loop-count-preserved : goal.loop-count-preserved
loop-count-preserved c =
    let n = c.args.limit - c.loop-count._count in
    let m = c.args.limit - (c.loop-count._count + 1) in
    let low = c.loop-count-test.true in
    let size : n ≡ suc m = omega (arith, low) in
    tail-more n m c.loop-count.rest.now c.from_comma-tail.result.now c.in-Some.more.now size c.from_comma-tail.ensures
    (sym c.next_searched.ensures ∙ ap (option_map (λ rest. rest.now)) c.in-Some.is)
    ∙ c.loop-count.invariant

pub returns-in-None : goal.returns-in-None
returns-in-None c =
    let n = c.args.limit - c.loop-count._count in
    let m = c.args.limit - (c.loop-count._count + 1) in
    let low = c.loop-count-test.true in
    let size : n ≡ suc m = omega (arith, low) in
    tail-stop n m c.loop-count.rest.now c.from_comma-tail.result.now size c.from_comma-tail.ensures
    (sym c.next_searched.ensures ∙ ap (option_map (λ rest. rest.now)) c.in-None.is)
    ∙ c.loop-count.invariant

pub returns : goal.returns
returns c =
    let high = c.loop-count-test.false in
    sym (tail-zero (c.args.limit - c.loop-count._count) c.loop-count.rest.now (omega (arith, high)))
    ∙ c.loop-count.invariant
