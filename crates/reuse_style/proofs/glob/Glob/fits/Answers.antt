use Rattle.std.proofs.Common.{subst}
use Rattle.reuse_style.specs.declared.glob.Front.{Front}
use Rattle.reuse_style.specs.Globs.{glob_fits}
use Rattle.reuse_style.specs.GlobSteps.{Decides}
use Rattle.reuse_style.proofs.GlobLemmas.{decided_by}
use Rattle.reuse_style.proofs.glob.Glob.fits.Goals as goal

pub loop-front-preserved : goal.loop-front-preserved
loop-front-preserved c =
    let fits = glob_fits c.args.letters c.args.self.now c.args.text.now in
    decided_by c.args.letters fits c.in-Run.left.now c.in-Run.rest.now c.fit_behind_run-front.result
    (subst (λ (front : Front). Decides c.args.letters fits front) c.in-Run.is c.loop-front.invariant)
    c.fit_behind_run-front.ensures.decides
