use Rattle.std.proofs.Common.{take_all, refl, subst, ◌≢◌}
use Rattle.std.specs.List.{AllPairs}
use Rattle.std.proofs.lemmas.Bool.{false≢true}
use Rattle.reuse_tree.proofs.DistinctNumbers.{distinct_more, not_distinct}
use Rattle.reuse_tree.proofs.journal.head_text.are_distinct.Goals as goal

pub returns-then-contains : goal.returns-then-contains
returns-then-contains c =
    let twice = c.if-contains.ensures.cases in (
      λ e. absurd (false≢true e),
      λ pairs. absurd (not_distinct c.args.numbers.now c.loop-i.i twice.0 c.loop-i-test.true twice.1 twice.2 pairs),
    )

pub loop-i-preserved : goal.loop-i-preserved
loop-i-preserved c =
    distinct_more c.args.numbers.now c.loop-i.i c.loop-i-test.true c.loop-i.invariant c.if-contains.ensures.cases

pub returns : goal.returns
returns c = (
  λ e. subst (λ ns. AllPairs (λ m n. m ≢ n) ns)
      (take_all c.loop-i.i c.args.numbers.now c.loop-i-test.false) c.loop-i.invariant,
  λ pairs. refl,
)
