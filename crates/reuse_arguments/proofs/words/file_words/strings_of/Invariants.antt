use Rattle.std.proofs.Common.{◌≡◌, take, map}
use Rattle.std.specs.Prelude.{string_bytes}
use Rattle.reuse_arguments.proofs.WordListLemmas.{texts_in}
use Rattle.reuse_arguments.proofs.words.file_words.strings_of.Given as goal

-- the words so far were taken
abbrev pub invariant-loop-word : goal.invariant-loop-word
invariant-loop-word l = map string_bytes l.texts.items ≡ texts_in (take l.word-index l.words)
