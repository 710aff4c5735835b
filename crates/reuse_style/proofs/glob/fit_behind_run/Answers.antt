use Rattle.reuse_style.proofs.GlobLemmas.{found_run, longer_run, no_longer_run}
use Rattle.reuse_style.proofs.glob.fit_behind_run.Goals as goal

pub returns-in_default : goal.returns-in_default
returns-in_default c = record {
  decides = found_run c.args.letters c.args.pieces.now c.args.text.now c.loop-front.rest.now c.fit_front.result
      c.in_default.not-Mismatch c.fit_front.ensures.decides c.fit_front.ensures.earliest c.loop-front.invariant;
  fewer = c.fit_front.ensures.fewer;
}

pub returns-in_default-split_first-clause-decides : goal.returns-in_default-split_first-clause-decides
returns-in_default-split_first-clause-decides c =
    no_longer_run c.args.letters c.args.pieces.now c.args.text.now c.loop-front.rest.now c.loop-front.invariant
    c.in_default-split_first.ensures.cases c.in-Mismatch.ensures.decides

pub loop-front-preserved : goal.loop-front-preserved
loop-front-preserved c =
    longer_run c.args.letters c.args.pieces.now c.args.text.now c.loop-front.rest.now c.in-Some.tail.now
    c.in-Some.field-0-0.now c.loop-front.invariant c.in-Some.ensures.cases.0 c.in-Mismatch.ensures.decides
