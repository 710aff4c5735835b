use Rattle.std.proofs.Common.{arith, sym, ◌∙◌, ◌-◌, length, get_or}
use Rattle.reuse_notice.proofs.BlankLemmas.{drop_end-last, drop_end-whole, drop_end-none}
use Rattle.reuse_notice.proofs.trims.trim_end_with.Goals as goal

pub returns-then-not-passes : goal.returns-then-not-passes
returns-then-not-passes g c test is =
    let fails =
    sym (is (get_or c.loop-rest.rest.now (length c.loop-rest.rest.now - 1) 0) c.passes.result c.passes.ensures)
    ∙ c.if-not-passes.true in
    drop_end-whole test c.loop-rest.rest.now 0 (omega arith) fails ∙ c.loop-rest.invariant test is

pub loop-rest-preserved : goal.loop-rest-preserved
loop-rest-preserved g c test is =
    let passes =
    sym (is (get_or c.loop-rest.rest.now (length c.loop-rest.rest.now - 1) 0) c.passes.result c.passes.ensures)
    ∙ c.if-not-passes.false in
    drop_end-last test c.loop-rest.rest.now 0 (omega arith) passes ∙ c.loop-rest.invariant test is

pub returns : goal.returns
returns g c test is = drop_end-none test c.loop-rest.rest.now (omega arith) ∙ c.loop-rest.invariant test is
