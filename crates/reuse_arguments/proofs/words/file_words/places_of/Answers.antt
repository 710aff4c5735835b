use Rattle.std.proofs.Common.{arith, ◌∷◌, [], Ok}
use Rattle.std.specs.Option.{option_map}
use Rattle.reuse_arguments.specs.FileWords.{place_read}
use Rattle.reuse_arguments.specs.LineFaults.{then_read}
use Rattle.reuse_arguments.proofs.LineFaultLemmas.{expected_after, mistake_first, read_on}
use Rattle.reuse_arguments.proofs.WordListLemmas.{HasRead-end, HasRead-more, HasRead-stops}
use Rattle.reuse_arguments.proofs.words.file_words.places_of.Goals as goal

pub returns-in_err-read_place : goal.returns-in_err-read_place
returns-in_err-read_place c =
    expected_after _ _ _ _ c.from_residual.ensures.1
    (HasRead-stops (λ word. then_read (place_read (option_map (λ text. text.now) c.args.folder) word) (λ a. Ok (a ∷ []))) _ c.loop-word.word-index _ _ _
    (omega arith) c.loop-word.invariant (mistake_first _ _ _ c.in_err-read_place.ensures))

pub loop-word-preserved : goal.loop-word-preserved
loop-word-preserved c = HasRead-more (λ word. then_read (place_read (option_map (λ text. text.now) c.args.folder) word)
    (λ a. Ok (a ∷ []))) _ c.loop-word.word-index _ _ _ _ (omega arith) c.loop-word.invariant
    (read_on _ _ _ c.in_ok-read_place.ensures) c.in_ok-push.ensures.items

pub returns : goal.returns
returns c = HasRead-end (λ word. then_read (place_read (option_map (λ text. text.now) c.args.folder) word) (λ a. Ok (a ∷ []))) _ c.loop-word.word-index _
    (omega arith) c.loop-word.invariant
