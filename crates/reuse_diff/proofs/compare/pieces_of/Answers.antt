-- The pieces are those of the lines.
use Rattle.reuse_diff.proofs.compare.pieces_of.Goals as goal

pub returns-clause-old : goal.returns-clause-old
returns-clause-old c = rw (c.in_ok-pieces_between.ensures.old, c.deref.ensures.value) c.in_ok-old.ensures

pub returns-clause-new : goal.returns-clause-new
returns-clause-new c = rw (c.in_ok-pieces_between.ensures.new, c.deref-2.ensures.value) c.in_ok-new.ensures
