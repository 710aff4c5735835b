use Rattle.reuse_words.specs.Information.{with_texts}
use Rattle.reuse_words.proofs.RunLawLemmas.{all_held, all_stay}
use Rattle.reuse_words.proofs.HeldLemmas.{information_holds}
use Rattle.reuse_words.proofs.laws.all_texts_are_added_once.Goals as goal

pub returns : goal.returns
returns c = record {
  held = all_held;
  again = λ punct texts contents.
      all_stay punct texts (with_texts punct texts contents) (all_held punct texts contents);
  information = information_holds;
}
