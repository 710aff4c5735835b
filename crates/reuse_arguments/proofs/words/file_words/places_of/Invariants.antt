use Rattle.std.specs.Prelude.{Ok, ◌∷◌, []}
use Rattle.std.specs.Option.{option_map}
use Rattle.reuse_arguments.specs.FileWords.{place_read}
use Rattle.reuse_arguments.specs.LineFaults.{then_read}
use Rattle.reuse_arguments.proofs.WordListLemmas.{HasRead}
use Rattle.reuse_arguments.proofs.words.file_words.places_of.Given as goal

-- the words so far were read
abbrev pub invariant-loop-word : goal.invariant-loop-word
invariant-loop-word l = HasRead (λ word. then_read (place_read (option_map (λ text. text.now) l.folder) word)
    (λ a. Ok (a ∷ []))) l.words l.word-index l.places.items
