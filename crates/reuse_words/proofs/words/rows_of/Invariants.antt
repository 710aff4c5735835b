use Rattle.std.proofs.Common.{◌≡◌, take, map}
use Rattle.reuse_words.specs.Words.{words_in}
use Rattle.reuse_words.proofs.words.rows_of.Given as goal

abbrev pub invariant-loop-content : goal.invariant-loop-content
invariant-loop-content l = l.rows.items ≡ map (words_in l.punct) (take l.content-index l.contents)
