use Rattle.std.proofs.Common.{◌≡◌, ◌++◌, length}
use Rattle.reuse_words.specs.Words.{spaced_words}
use Rattle.reuse_words.proofs.words.push_words.Given as goal

abbrev pub invariant-loop-rest : goal.invariant-loop-rest
invariant-loop-rest l = l.words.items ++ spaced_words l.rest ≡ l.initial.words.items ++ spaced_words l.text

abbrev pub decreases-loop-rest : goal.decreases-loop-rest
decreases-loop-rest l = length l.rest
