use Rattle.std.proofs.Common.{◌≡◌, ◌∷◌, length}
use Rattle.reuse_style.specs.declared.glob.GlobPiece.TheVariants.{AnyRun}
use Rattle.reuse_style.specs.Globs.{glob_fits}
use Rattle.reuse_style.proofs.glob.fit_behind_run.Given as goal

abbrev pub invariant-loop-front : goal.invariant-loop-front
invariant-loop-front l =
    glob_fits l.fn.letters (AnyRun ∷ l.fn.pieces) l.fn.text ≡ glob_fits l.fn.letters (AnyRun ∷ l.fn.pieces) l.rest

abbrev pub decreases-loop-front : goal.decreases-loop-front
decreases-loop-front l = length l.rest
