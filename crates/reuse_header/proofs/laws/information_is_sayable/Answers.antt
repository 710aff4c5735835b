use Rattle.std.proofs.Common.{[], refl}
use Rattle.reuse_style.specs.Styles.{punctuation_of}
use Rattle.reuse_header.specs.Header.{neighbour_contents}
use Rattle.reuse_header.proofs.SayableLemmas.{info_sayable, union_sayable, found_clean, neighbour_clean}
use Rattle.reuse_header.proofs.PlainLemmas.{letters, no_letters, additions_sayable}
use Rattle.reuse_header.proofs.MergedLemmas.{merged_sayable}
use Rattle.reuse_header.proofs.laws.information_is_sayable.Goals as goal

pub returns : goal.returns
returns c =
    let known = c.lower_laws.ensures.known in
    record {
      read = λ punct contents e good. info_sayable known.sorted punct contents e good;
      found = λ style file span e. info_sayable known.sorted (punctuation_of style) span.contents (letters style).s
          (found_clean style file span e);
      neighbours = λ file. info_sayable known.sorted [] (neighbour_contents file) refl (neighbour_clean file);
      added = λ style arguments plain. (
        additions_sayable known.none (punctuation_of style) (letters style) arguments plain,
        additions_sayable known.none [] no_letters arguments plain,
      );
      merged = λ style info additions. (
        (λ s. merged_sayable known.merges known.sorted known.none (punctuation_of style)
            (letters style) info additions s),
        (λ s. merged_sayable known.merges known.sorted known.none [] no_letters info additions s),
      );
      joined = λ punct info additions s a. union_sayable known.sorted punct info additions s a;
    }
