use Rattle.reuse_words.specs.Runs.{with_text}
use Rattle.reuse_words.proofs.RunLawLemmas.{text_held, held_stays}
use Rattle.reuse_words.proofs.laws.texts_are_added_once.Goals as goal

pub returns : goal.returns
returns c = record {
  held = text_held;
  stays = held_stays;
  again = λ punct text contents. held_stays punct text (with_text punct text contents) (text_held punct text contents);
}
