use Rattle.std.proofs.Common.{◌≡◌, take}
use Rattle.reuse_words.specs.Words.{words_of}
use Rattle.reuse_words.proofs.words.words_of.Given as goal

abbrev pub invariant-loop-content : goal.invariant-loop-content
invariant-loop-content l = l.words.items ≡ words_of l.punct (take l.content-index l.contents)
