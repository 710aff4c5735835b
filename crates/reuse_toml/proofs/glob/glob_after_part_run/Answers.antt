use Rattle.reuse_toml.proofs.GlobLemmas.{IsPartSearch-found, IsPartSearch-end, IsPartSearch-slash, IsPartSearch-next}
use Rattle.reuse_toml.proofs.glob.glob_after_part_run.Goals as goal

pub returns-in_default-clause-fit : goal.returns-in_default-clause-fit
returns-in_default-clause-fit c =
    IsPartSearch-found _ _ _ c.glob_front.result c.in_default.not-Mismatch c.loop-fit.invariant.1
    c.glob_front.ensures.fit

pub returns-in-None-clause-fit : goal.returns-in-None-clause-fit
returns-in-None-clause-fit c =
    IsPartSearch-end _ _ _ c.in-None.ensures.characters c.in-Mismatch.ensures.fit c.loop-fit.invariant.1

pub returns-then-first-eq47-clause-fit : goal.returns-then-first-eq47-clause-fit
returns-then-first-eq47-clause-fit c =
    IsPartSearch-slash _ _ _ _ _ c.in-Some.ensures.characters c.if-first-eq47.true c.in-Mismatch.ensures.fit
    c.loop-fit.invariant.1

pub loop-fit-preserved : goal.loop-fit-preserved
loop-fit-preserved c = (
  c.in-Some.ensures.utf8,
  IsPartSearch-next _ _ _ _ _ c.in-Some.ensures.characters c.if-first-eq47.false c.in-Mismatch.ensures.fit
      c.loop-fit.invariant.1,
)
