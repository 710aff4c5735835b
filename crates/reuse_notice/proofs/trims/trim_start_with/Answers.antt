use Rattle.std.proofs.Common.{arith, sym, ◌∙◌, get_or}
use Rattle.reuse_notice.proofs.BlankLemmas.{drop_front-first, drop_front-whole, drop_front-none}
use Rattle.reuse_notice.proofs.trims.trim_start_with.Goals as goal

pub returns-then-not-passes : goal.returns-then-not-passes
returns-then-not-passes g c test is =
    let fails = sym (is (get_or c.loop-rest.rest.now 0 0) c.passes.result c.passes.ensures) ∙ c.if-not-passes.true in
    drop_front-whole test c.loop-rest.rest.now 0 (omega arith) fails ∙ c.loop-rest.invariant test is

pub loop-rest-preserved : goal.loop-rest-preserved
loop-rest-preserved g c test is =
    let passes = sym (is (get_or c.loop-rest.rest.now 0 0) c.passes.result c.passes.ensures) ∙ c.if-not-passes.false in
    drop_front-first test c.loop-rest.rest.now 0 (omega arith) passes ∙ c.loop-rest.invariant test is

pub returns : goal.returns
returns g c test is = drop_front-none test c.loop-rest.rest.now (omega arith) ∙ c.loop-rest.invariant test is
