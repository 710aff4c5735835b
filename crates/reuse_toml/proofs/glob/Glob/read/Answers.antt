use Rattle.std.specs.Str.{chars}
use Rattle.reuse_toml.proofs.ReadGlobLemmas.{behind_step}
use Rattle.reuse_toml.proofs.glob.Glob.read.Goals as goal

pub loop-first-preserved : goal.loop-first-preserved
loop-first-preserved c = (
  c.in-Some-next_piece.ensures.utf8,
  behind_step (chars c.args.text.now) (chars c.loop-first.rest.now) (chars c.in-Some.tail.now)
      (chars c.in-Some-next_piece.left.now) c.in-Some.first c.loop-first.pieces.items c.push.new.self.items
      c.in-Some-next_piece.piece
      c.loop-first.invariant.1 c.in-Some.ensures.characters c.in-Some-next_piece.ensures.piece
      c.in_ok-push.ensures.items,
)
