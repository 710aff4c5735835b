-- What a merge makes of the notices of one holder (the reuse tool's manual page of `annotate`, `--merge-copyrights`;
-- the
-- details: docs/RULES.md, "Licensing information").
use Rattle.std.specs.Prelude.{◌≡◌, ℕ, ◌≤◌, false, List, Option, None, Some, Contains, ◌⊎◌}
use Rattle.std.specs.declared.cmp.Ordering.TheVariants.{Less}
use Rattle.reuse_notice.specs.declared.tags.Years.{Years}
use Rattle.reuse_notice.specs.Sets.{byte_order}
use Rattle.reuse_notice.specs.Tags.{NoticeText, notice_of}
use Rattle.reuse_notice.specs.Adding.{notice_written}
use Rattle.reuse_notice.specs.Merging.{says}

-- a text is a notice of the holder
abbrev pub IsNoticeOf : List ℕ → List ℕ → Type 0
IsNoticeOf holder text = (notice : NoticeText) × (notice_of text ≡ Some notice) × (notice.holder ≡ holder)

-- it is one of the command's
abbrev pub IsCommanded : List (List ℕ) → List ℕ → List ℕ → Type 0
IsCommanded command holder text = IsNoticeOf holder text × Contains command text

-- the byte-least of some texts that are as they should
pub record IsLeast (IsMeant : List ℕ → Type 0) (texts : List (List ℕ)) (text : List ℕ) : Type 0 where
  pub stands : Contains texts text
  pub meant : IsMeant text
  pub least : (other : List ℕ) → Contains texts other → IsMeant other → (other ≡ text) ⊎ (byte_order text other ≡ Less)

-- the notice whose prefix is taken: the byte-least of the command's of the holder, or, where there is none, of all of
-- the holder
abbrev pub Leads : List (List ℕ) → List (List ℕ) → List ℕ → List ℕ → Type 0
Leads command notices holder text =
    IsLeast (IsCommanded command holder) notices text
    ⊎ (((other : List ℕ) → Contains notices other → ¬ IsCommanded command holder other)
    × IsLeast (IsNoticeOf holder) notices text)

-- a notice of the holder has these years
pub record HasYears (notices : List (List ℕ)) (holder : List ℕ) (years : Years) : Type 0 where
  pub text : List ℕ
  pub notice : NoticeText
  pub stands : Contains notices text
  pub read : notice_of text ≡ Some notice
  pub of : notice.holder ≡ holder
  pub has : notice.years ≡ Some years

-- years from the lowest to the highest of the holder's
pub record AreSpan (notices : List (List ℕ)) (holder : List ℕ) (span : Years) : Type 0 where
  pub lowest : (years : Years) × HasYears notices holder years × (years.low ≡ span.low)
  pub highest : (years : Years) × HasYears notices holder years × (years.high ≡ span.high)
  pub within : (years : Years) → HasYears notices holder years → (span.low ≤ years.low) × (years.high ≤ span.high)

-- the years of a holder's notices together, none where none has years
abbrev pub AreYearsOf : List (List ℕ) → List ℕ → Option Years → Type 0
AreYearsOf notices holder None = (years : Years) → ¬ HasYears notices holder years
AreYearsOf notices holder (Some span) = AreSpan notices holder span

-- the one notice that the holder's notices become
pub record IsMergedNotice (command notices : List (List ℕ)) (holder text : List ℕ) : Type 0 where
  pub leading : List ℕ
  pub notice : NoticeText
  pub years : Option Years
  pub leads : Leads command notices holder leading
  pub read : notice_of leading ≡ Some notice
  pub years_are : AreYearsOf notices holder years
  pub written : text ≡ notice_written notice.prefix years holder

-- it isn't written where the holder has this notice alone, or where it would not read as it is meant
abbrev pub StaysAsItIs : (command notices : List (List ℕ)) (holder text written : List ℕ)
    → IsMergedNotice command notices holder written → Type 0
StaysAsItIs command notices holder text written merged =
    ((other : List ℕ) → Contains notices other → IsNoticeOf holder other → other ≡ text)
    ⊎ (says merged.notice.prefix merged.years holder (notice_of written) ≡ false)
