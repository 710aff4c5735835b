use Rattle.reuse_arguments.specs.FileWords.{globs_of}
use Rattle.reuse_arguments.proofs.WordListLemmas.{HasRead}
use Rattle.reuse_arguments.proofs.words.file_words.globs_in.Given as goal

-- the words so far were read
abbrev pub invariant-loop-word : goal.invariant-loop-word
invariant-loop-word l = HasRead globs_of l.words l.word-index l.globs.items
