use Rattle.std.proofs.Common.{refl}
use Rattle.reuse_words.proofs.file_laws.texts_keep_tags.Goals as goal

pub returns : goal.returns
returns c = record {
  added = λ punct texts info. record { notices = refl; contributors = refl; licences = refl };
  taken_out = λ punct texts info. record { notices = refl; contributors = refl; licences = refl };
}
