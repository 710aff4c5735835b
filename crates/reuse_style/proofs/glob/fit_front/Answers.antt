use Rattle.std.proofs.Common.{sym, arith, true, false}
use Rattle.reuse_style.proofs.GlobLemmas.{run_earliest, walk_short, walk_stop, walk_step, walk_end}
use Rattle.reuse_style.proofs.glob.fit_front.Goals as goal

pub returns-in-AnyRun-clause-earliest : goal.returns-in-AnyRun-clause-earliest
returns-in-AnyRun-clause-earliest c =
    run_earliest c.args.letters c.args.pieces.now c.args.text.now c.in-Some.piece.now c.in-Some.others.now
    c.loop-piece.left.now c.loop-piece.rest.now c.in-Some.ensures.cases.0 c.in-AnyRun.is c.loop-piece.invariant.1

pub returns-in_default-split_first-clause-decides : goal.returns-in_default-split_first-clause-decides
returns-in_default-split_first-clause-decides c =
    walk_short c.args.letters c.args.pieces.now c.args.text.now c.in-Some.piece.now c.in-Some.others.now
    c.loop-piece.left.now c.in-Byte.wanted c.loop-piece.rest.now c.in-Some.ensures.cases.0 c.in-Byte.is
    c.in_default-split_first.ensures.cases c.loop-piece.invariant.1

pub returns-then-not-is_same-clause-decides : goal.returns-then-not-is_same-clause-decides
returns-then-not-is_same-clause-decides c =
    walk_stop c.args.letters c.args.pieces.now c.args.text.now c.in-Some.piece.now c.in-Some.others.now
    c.loop-piece.left.now c.in-Byte.wanted c.in-Some-split_first.first.now c.loop-piece.rest.now
    c.in-Some-split_first.tail.now c.in-Some.ensures.cases.0 c.in-Byte.is c.in-Some-split_first.ensures.cases.0
    (sym c.if-not-is_same.ensures) c.loop-piece.invariant.1

pub loop-piece-preserved : goal.loop-piece-preserved
loop-piece-preserved c = (
  omega (arith, c.in-Some.ensures.cases.1),
  walk_step c.args.letters c.args.pieces.now c.args.text.now c.in-Some.piece.now c.in-Some.others.now
      c.loop-piece.left.now c.in-Byte.wanted c.in-Some-split_first.first.now c.loop-piece.rest.now
      c.in-Some-split_first.tail.now c.in-Some.ensures.cases.0 c.in-Byte.is c.in-Some-split_first.ensures.cases.0
      (sym c.if-not-is_same.ensures) c.loop-piece.invariant.1,
)

pub returns-then-is_empty-clause-decides : goal.returns-then-is_empty-clause-decides
returns-then-is_empty-clause-decides c =
    walk_end c.args.letters c.args.pieces.now c.args.text.now c.loop-piece.left.now c.loop-piece.rest.now true
    c.in_default.ensures.cases c.if-is_empty.ensures c.loop-piece.invariant.1

pub returns-else-is_empty-clause-decides : goal.returns-else-is_empty-clause-decides
returns-else-is_empty-clause-decides c =
    walk_end c.args.letters c.args.pieces.now c.args.text.now c.loop-piece.left.now c.loop-piece.rest.now false
    c.in_default.ensures.cases c.if-is_empty.ensures c.loop-piece.invariant.1
