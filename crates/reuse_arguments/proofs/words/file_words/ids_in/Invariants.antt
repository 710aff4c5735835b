use Rattle.std.proofs.Common.{◌≡◌, take}
use Rattle.reuse_arguments.proofs.WordListLemmas.{texts_in}
use Rattle.reuse_arguments.proofs.words.file_words.ids_in.Given as goal

-- the ids so far were taken
abbrev pub invariant-loop-word : goal.invariant-loop-word
invariant-loop-word l = l.ids.items ≡ texts_in (take l.word-index l.words)
