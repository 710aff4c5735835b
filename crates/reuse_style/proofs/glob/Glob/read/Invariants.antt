use Rattle.std.proofs.Common.{◌≡◌, length}
use Rattle.reuse_style.specs.Globs.{read_glob}
use Rattle.reuse_style.proofs.GlobLemmas.{behind}
use Rattle.reuse_style.proofs.glob.Glob.read.Given as goal

abbrev pub invariant-loop-first : goal.invariant-loop-first
invariant-loop-first l = read_glob l.fn.text ≡ behind l.pieces.items (read_glob l.rest)

abbrev pub decreases-loop-first : goal.decreases-loop-first
decreases-loop-first l = length l.rest
