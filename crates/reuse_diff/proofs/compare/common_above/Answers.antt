-- One more line of both is the same.
use Rattle.std.proofs.Common.{arith, []}
use Rattle.reuse_diff.proofs.CommonLines.{above-on, above-stops, above-ends}
use Rattle.reuse_diff.proofs.compare.common_above.Goals as goal

pub loop-count-preserved : goal.loop-count-preserved
loop-count-preserved c =
    above-on c.args.old.now c.args.new.now c.loop-count.count (record { ref_ptr = (0, 0); now = [] })
    (omega arith) (omega arith) (c.is_same.ensures.0 c.if-not-is_same.false) c.loop-count.invariant

pub returns-then-not-is_same-clause-all : goal.returns-then-not-is_same-clause-all
returns-then-not-is_same-clause-all c =
    above-stops c.args.old.now c.args.new.now c.loop-count.count (record { ref_ptr = (0, 0); now = [] })
    (omega arith) (omega arith)
    (λ here. (let same = c.is_same.ensures.1 here in cc)) c.loop-count.invariant.all

pub returns-clause-all : goal.returns-clause-all
returns-clause-all c =
    let all = above-ends c.args.old.now c.args.new.now c.loop-count.count (λ short. omega arith) (λ long. omega arith)
    c.loop-count.invariant.all in
    omega arith
