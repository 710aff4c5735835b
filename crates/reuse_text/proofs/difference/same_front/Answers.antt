use Rattle.std.proofs.Common.{arith, inl, inr, length, ◌≤◌, ◌⊎◌}
use Rattle.std.proofs.lemmas.Bool.{cases_lt}
use Rattle.reuse_text.proofs.DifferenceLemmas.{front-ends}
use Rattle.reuse_text.proofs.difference.same_front.Goals as goal

pub returns-clause-is : goal.returns-clause-is
returns-clause-is c =
    let late : (length c.args.old.now ≤ c.loop-count.count) ⊎ (length c.args.new.now ≤ c.loop-count.count) =
    elim (cases_lt (length c.args.new.now) (length c.args.old.now)) [
      | inl e ↦ inr (omega arith)
      | inr e ↦ inl (omega arith)
    ] in
    let all = front-ends c.args.old.now c.args.new.now c.loop-count.count late c.loop-count.invariant in
    omega arith
