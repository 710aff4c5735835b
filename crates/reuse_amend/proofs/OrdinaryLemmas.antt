-- Notices of ordinary holders are read as they are amended.
use Rattle.std.proofs.Common.{◌≡◌, ℕ, List, Option, Some, None, refl}
use Rattle.reuse_notice.specs.Tags.{year_of}
use Rattle.reuse_notice.proofs.PlainLemmas.{year-short}
use Rattle.reuse_amend.specs.Settled.{HasFourDigits}

pub year_short : (text : List ℕ) → HasFourDigits (year_of text)
year_short text = by (year_of text) refl
  where
    by : (o : Option ℕ) → year_of text ≡ o → HasFourDigits o
    by None e = tt
    by (Some year) e = year-short text year e
