use Rattle.std.proofs.Common.{sym}
use Rattle.reuse_style.proofs.GlobLemmas.{behind_end}
use Rattle.reuse_style.proofs.glob.Glob.read.Goals as goal

pub returns : goal.returns
returns c = sym (behind_end c.args.text.now c.loop-first.rest.now c.loop-first.pieces.items c.loop-first.invariant
    c.in_default.ensures.cases)
