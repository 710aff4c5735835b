use Rattle.std.proofs.Common.{arith}
use Rattle.reuse_toml.proofs.GlobLemmas.{IsGlobWalk-step}
use Rattle.reuse_toml.proofs.glob.glob_front.Goals as goal

pub loop-piece-preserved : goal.loop-piece-preserved
loop-piece-preserved c = (
  c.in-Some-split_first_char.ensures.utf8,
  omega (arith, c.in-Some.ensures.cases.1),
  IsGlobWalk-step _ _ c.in-Some.piece.now c.in-Some.others.now c.loop-piece.left.now c.in-Literal.wanted _ _ _
      c.in-Some.ensures.cases.0 c.in-Literal.is c.if-wanted-first.false c.in-Some-split_first_char.ensures.characters
      c.loop-piece.invariant.2,
)
