use Rattle.reuse_style.specs.Globs.{glob_fits}
use Rattle.reuse_style.specs.GlobSteps.{Decides, left_len}
use Rattle.reuse_style.proofs.glob.Glob.fits.Given as goal

abbrev pub invariant-loop-front : goal.invariant-loop-front
invariant-loop-front l = Decides l.fn.letters (glob_fits l.fn.letters l.fn.self l.fn.text) l.front

abbrev pub decreases-loop-front : goal.decreases-loop-front
decreases-loop-front l = left_len l.front
