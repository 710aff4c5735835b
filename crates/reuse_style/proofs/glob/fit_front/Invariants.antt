use Rattle.std.proofs.Common.{length, ◌≤◌}
use Rattle.reuse_style.proofs.GlobLemmas.{Walk}
use Rattle.reuse_style.proofs.glob.fit_front.Given as goal

abbrev pub invariant-loop-piece : goal.invariant-loop-piece
invariant-loop-piece l =
    (length l.left ≤ length l.fn.pieces) × Walk l.fn.letters l.fn.pieces l.fn.text l.left l.rest

abbrev pub decreases-loop-piece : goal.decreases-loop-piece
decreases-loop-piece l = length l.left
