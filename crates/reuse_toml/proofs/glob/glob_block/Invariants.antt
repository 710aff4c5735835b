use Rattle.std.proofs.Common.{length, ◌≤◌}
use Rattle.std.specs.Str.{chars}
use Rattle.reuse_toml.specs.Steps.GlobMatching.{IsGlobFit, glob_fit_len}
use Rattle.reuse_toml.proofs.glob.glob_block.Given as goal

abbrev pub invariant-loop-fit : goal.invariant-loop-fit
invariant-loop-fit l = IsGlobFit l.fn.pieces (chars l.fn.text) l.fit × (glob_fit_len l.fit ≤ length l.fn.pieces)

abbrev pub decreases-loop-fit : goal.decreases-loop-fit
decreases-loop-fit l = glob_fit_len l.fit
