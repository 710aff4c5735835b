use Rattle.std.proofs.Common.{refl}
use Rattle.reuse_style.proofs.GoodLemmas.{no_punctuation}
use Rattle.reuse_style.proofs.laws.punctuation_keeps_tags.Goals as goal

pub returns : goal.returns
returns c =
    λ style. let s = no_punctuation style 83 refl in
    let c = no_punctuation style 67 refl in
    let sign = no_punctuation style 194 refl in
    rw (s, c, sign) refl
