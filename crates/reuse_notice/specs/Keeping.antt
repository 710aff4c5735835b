-- What a merge keeps of a notice (this project's own).
use Rattle.std.specs.Prelude.{◌≡◌, ◌≤◌, ℕ, List, Option, None, Some}
use Rattle.reuse_notice.specs.declared.tags.Years.{Years}
use Rattle.reuse_notice.specs.declared.prefixes.Prefix.{Prefix}
use Rattle.reuse_notice.specs.Tags.{NoticeText, notice_of}
use Rattle.reuse_notice.specs.Adding.{notice_written}

-- the first years include the second, if there are some
abbrev pub Include : Option Years → Option Years → Type 0
Include years None = Unit {0}
Include None (Some own) = ⊥
Include (Some years) (Some own) = (years.low ≤ own.low) × (own.high ≤ years.high)

-- the other text is a notice of the same holder, whose years include those of the text
pub record IsKeptBy (text other : List ℕ) : Type 0 where
  pub was : NoticeText
  pub is : NoticeText
  pub read_was : notice_of text ≡ Some was
  pub read_is : notice_of other ≡ Some is
  pub holder : is.holder ≡ was.holder
  pub years : Include is.years was.years

-- years of four digits, if there are some
abbrev pub HaveFourDigits : Option Years → Type 0
HaveFourDigits None = Unit {0}
HaveFourDigits (Some years) = (years.low ≤ 9999) × (years.high ≤ 9999)

-- the other text is written of the holder that the text names, with years of four digits
pub record IsWrittenOf (text other : List ℕ) : Type 0 where
  pub notice : NoticeText
  pub prefix : Prefix
  pub years : Option Years
  pub read : notice_of text ≡ Some notice
  pub digits : HaveFourDigits years
  pub written : other ≡ notice_written prefix years notice.holder
