use Rattle.reuse_toml.proofs.GlobLemmas.{glob_after_found}
use Rattle.reuse_toml.proofs.RunLemmas.{run_end, run_next}
use Rattle.reuse_toml.specs.GlobMatch.{GlobMatches}
use Rattle.reuse_toml.proofs.glob.glob_after_run.Goals as goal

pub returns-in_default-clause-fit : goal.returns-in_default-clause-fit
returns-in_default-clause-fit c =
    glob_after_found _ _ _ c.glob_block.result c.in_default.not-Mismatch c.glob_block.ensures.past_part
    c.loop-fit.invariant.1 c.glob_block.ensures.fit

pub returns-in-None-clause-fit : goal.returns-in-None-clause-fit
returns-in-None-clause-fit c =
    run_end
    (GlobMatches c.args.pieces.now) _ _ c.in-None.ensures.characters c.in-Mismatch.ensures.fit c.loop-fit.invariant.1

pub loop-fit-preserved : goal.loop-fit-preserved
loop-fit-preserved c = (
  c.in-Some.ensures.utf8,
  run_next (GlobMatches c.args.pieces.now) _ _ _ _ c.in-Some.ensures.characters c.in-Mismatch.ensures.fit
      c.loop-fit.invariant.1,
)
