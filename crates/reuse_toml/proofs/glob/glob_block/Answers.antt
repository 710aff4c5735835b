use Rattle.std.proofs.Common.{◌+◌, ◌≤◌, ◌∷◌, length, subst, arith}
use Rattle.std.specs.Str.{chars}
use Rattle.reuse_toml.specs.declared.glob.GlobPiece.TheVariants.{RunInPart}
use Rattle.reuse_toml.specs.declared.glob.GlobFit.{GlobFit}
use Rattle.reuse_toml.specs.Steps.GlobMatching.{IsGlobFit, glob_fit_len}
use Rattle.reuse_toml.proofs.GlobLemmas.{IsGlobFit-then}
use Rattle.reuse_toml.proofs.glob.glob_block.Goals as goal

pub loop-fit-preserved : goal.loop-fit-preserved
loop-fit-preserved c =
    let pieces = c.args.pieces.now in
    let left = c.in-PartRun.left.now in
    let walk = subst (λ (fit : GlobFit). IsGlobFit pieces (chars c.args.text.now) fit
    × (glob_fit_len fit ≤ length pieces)) c.in-PartRun.is c.loop-fit.invariant in
    let fewer : length left + 1 ≤ length pieces = walk.1 in
    let left_fewer : glob_fit_len c.glob_after_part_run-fit.result ≤ length left =
    c.glob_after_part_run-fit.ensures.fewer in (
      IsGlobFit-then pieces _ (RunInPart ∷ left)
          (chars c.in-PartRun.rest.now) c.glob_after_part_run-fit.result walk.0 c.glob_after_part_run-fit.ensures.fit,
      omega arith,
    )
