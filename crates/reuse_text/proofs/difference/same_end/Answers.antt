use Rattle.std.proofs.Common.{arith, inl, inr, length, ◌≤◌, ◌⊎◌}
use Rattle.std.proofs.lemmas.Bool.{cases_lt}
use Rattle.reuse_text.proofs.DifferenceLemmas.{end-more, end-stops, end-ends}
use Rattle.reuse_text.proofs.difference.same_end.Goals as goal

pub returns-then-old-count-clause-is : goal.returns-then-old-count-clause-is
returns-then-old-count-clause-is c =
    end-stops c.args.old.now c.args.new.now c.loop-count.count 0 (omega arith) (omega arith)
    c.if-old-count.true c.loop-count.invariant

pub loop-count-preserved : goal.loop-count-preserved
loop-count-preserved c =
    end-more c.args.old.now c.args.new.now c.loop-count.count 0 (omega arith) (omega arith)
    c.if-old-count.false c.loop-count.invariant

pub returns-clause-is : goal.returns-clause-is
returns-clause-is c =
    let late : (length c.args.old.now ≤ c.loop-count.count) ⊎ (length c.args.new.now ≤ c.loop-count.count) =
    elim (cases_lt (length c.args.new.now) (length c.args.old.now)) [
      | inl e ↦ inr (omega arith)
      | inr e ↦ inl (omega arith)
    ] in
    let all = end-ends c.args.old.now c.args.new.now c.loop-count.count late c.loop-count.invariant in
    omega arith
