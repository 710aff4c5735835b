use Rattle.std.specs.Str.{chars}
use Rattle.reuse_toml.specs.GlobMatch.{GlobMatches}
use Rattle.reuse_toml.specs.Steps.GlobMatching.{glob_fit_len}
use Rattle.reuse_toml.proofs.GlobLemmas.{GlobFitDecides}
use Rattle.reuse_toml.proofs.glob.glob_matches.Given as goal

abbrev pub invariant-loop-fit : goal.invariant-loop-fit
invariant-loop-fit l = GlobFitDecides (GlobMatches l.fn.glob (chars l.fn.path)) l.fit

abbrev pub decreases-loop-fit : goal.decreases-loop-fit
decreases-loop-fit l = glob_fit_len l.fit
