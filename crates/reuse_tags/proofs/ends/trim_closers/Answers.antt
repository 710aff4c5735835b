use Rattle.std.proofs.Common.{◌≡◌, ◌+◌, ◌-◌, ◌∙◌, sym, ap, arith, length, suc}
use Rattle.std.specs.Prelude.{option_map}
use Rattle.reuse_tags.proofs.EndLemmas.{closers-zero, closers-stop, closers-more}
use Rattle.reuse_tags.proofs.ends.trim_closers.Goals as goal

pub loop-count-preserved : goal.loop-count-preserved
loop-count-preserved c =
    let n = length c.args.text.now - c.loop-count._count in
    let m = length c.args.text.now - (c.loop-count._count + 1) in
    let low = c.loop-count-test.true in
    let size : n ≡ suc m = omega (arith, low) in
    closers-more n m c.loop-count.rest.now c.in-Some.front.now c.trim_blanks_and_quotes-rest-in-Some.result.now size
    (sym c.before_closer.ensures ∙ ap (option_map (λ front. front.now)) c.in-Some.is)
    c.trim_blanks_and_quotes-rest-in-Some.ensures
    ∙ c.loop-count.invariant

pub returns-in-None : goal.returns-in-None
returns-in-None c =
    let n = length c.args.text.now - c.loop-count._count in
    let m = length c.args.text.now - (c.loop-count._count + 1) in
    let low = c.loop-count-test.true in
    let size : n ≡ suc m = omega (arith, low) in
    closers-stop n m c.loop-count.rest.now size
    (sym c.before_closer.ensures ∙ ap (option_map (λ front. front.now)) c.in-None.is)
    ∙ c.loop-count.invariant

pub returns : goal.returns
returns c =
    let high = c.loop-count-test.false in
    sym (closers-zero (length c.args.text.now - c.loop-count._count) c.loop-count.rest.now (omega (arith, high)))
    ∙ c.loop-count.invariant
