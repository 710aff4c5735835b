-- Amendments after which nothing is left to amend (this project's own).
use Rattle.std.specs.Prelude.{◌≡◌, ◌≢◌, ◌≤◌, ℕ, nat_eq, Bool, true, false, ◌&&◌, ◌||◌, ◌==◌, List, [], ◌∷◌, take}
use Rattle.std.specs.Prelude.{Option, None, Some, IsUtf8, codes}
use Rattle.std.specs.Char.{is_ascii_digit}
use Rattle.std.specs.List.{AllByRecursion, list_any, starts_with}
use Rattle.reuse_amend.specs.declared.replacements.Replacement.{Replacement}
use Rattle.reuse_amend.specs.declared.amendments.Amendments.{Amendments}
use Rattle.reuse_notice.specs.declared.tags.Years.{Years}
use Rattle.reuse_notice.specs.declared.prefixes.Prefix.{Prefix}
use Rattle.reuse_notice.specs.Prefixes.{copyright_sign}
use Rattle.reuse_notice.specs.Tags.{is_blank, all_blank, trimmed, drop_front}
use Rattle.reuse_notice.specs.Adding.{notice_written}
use Rattle.reuse_notice.specs.MergeSteps.{is_among}
use Rattle.reuse_notice.specs.Plain.{IsPlain}
use Rattle.reuse_notice.specs.ExpressionSteps.{fault_of}
use Rattle.reuse_amend.specs.Pieces.{pieces_of, is_identifier}
use Rattle.reuse_amend.specs.NoticeParts.{Parts, parts_text, parts_of}
use Rattle.reuse_amend.specs.Amending.{text_amended, parts_amended}
use Rattle.reuse_amend.specs.InPlace.{goes_on}

-- a replacement after which a licence stands nowhere anew: neither NEW is the licence nor a token of it; and where the
-- replacement works within expressions, the licence isn't one of several tokens, which might be put together
pub record DoesNotBringIn (licence : List ℕ) (r : Replacement) : Type 0 where
  pub whole : r.new ≢ licence
  pub tokens : AllByRecursion (λ p. p.0 ≢ licence) (pieces_of r.new)
  pub within : is_identifier r.old ≡ true → fault_of licence ≡ None → is_identifier licence ≡ true

-- each NEW is an expression, and no replacement brings in its own OLD, nor that of one before it
abbrev pub NoLicenceComesBack : List Replacement → Type 0
NoLicenceComesBack [] = Unit {0}
NoLicenceComesBack (r ∷ later) =
    (fault_of r.new ≡ None) × AllByRecursion (DoesNotBringIn r.old) (r ∷ later) × NoLicenceComesBack later

-- no NEW is the OLD of its own replacement, nor that of one before it
abbrev pub NoTextComesBack : List Replacement → Type 0
NoTextComesBack [] = Unit {0}
NoTextComesBack (r ∷ later) = AllByRecursion (λ s. s.new ≢ r.old) (r ∷ later) × NoTextComesBack later

-- a text that is made of another one stays when the replacements are made again
abbrev pub Settles : List Replacement → List ℕ → Type 0
Settles replacements text = text_amended replacements (text_amended replacements text) ≡ text_amended replacements text

-- nothing that is replaced comes back by the replacements
pub record BringNothingBack (a : Amendments) : Type 0 where
  pub licences : NoLicenceComesBack a.replaced_licences
  pub holders : NoTextComesBack a.replaced_holders
  pub contributors : NoTextComesBack a.replaced_contributors

-- what a notice becomes is read as the parts that it is put together of
abbrev pub ReadsAsAmended : Amendments → List ℕ → Type 0
ReadsAsAmended a text =
    (parts : Parts) → parts_of text ≡ Some parts
    → is_among a.removed_holders (text_amended a.replaced_holders parts.holder) ≡ false
    → let new = parts_amended a parts (text_amended a.replaced_holders parts.holder) in
    parts_of (parts_text new) ≡ Some new

-- each NEW is plain, as the calls that take it make sure of
pub record WritePlainTexts (a : Amendments) : Type 0 where
  pub licences : AllByRecursion (λ r. IsPlain r.new) a.replaced_licences
  pub holders : AllByRecursion (λ r. IsPlain r.new) a.replaced_holders
  pub contributors : AllByRecursion (λ r. IsPlain r.new) a.replaced_contributors

-- each NEW is UTF-8, as the texts of Rust are
pub record WriteUtf8Texts (a : Amendments) : Type 0 where
  pub licences : AllByRecursion (λ r. IsUtf8 r.new) a.replaced_licences
  pub holders : AllByRecursion (λ r. IsUtf8 r.new) a.replaced_holders
  pub contributors : AllByRecursion (λ r. IsUtf8 r.new) a.replaced_contributors

-- ---- holders that are read as they are written

-- a holder that might be read as a part of what stands in front of it: of years, or of a prefix
abbrev pub may_be_misread : List ℕ → Bool
may_be_misread holder =
    list_any is_ascii_digit (take 1 holder)
    || list_any (λ lead. starts_with nat_eq holder lead)
    (codes "-" ∷ codes "(C)" ∷ codes "Copyright" ∷ copyright_sign ∷ [])

-- whether a comma stands in a text, and behind it and blank bytes a digit
abbrev pub begins_digit : List ℕ → Bool
begins_digit bytes = list_any is_ascii_digit (take 1 bytes)

abbrev pub has_dated_comma : List ℕ → Bool
has_dated_comma [] = false
has_dated_comma (b ∷ bytes) = (b == 44 && begins_digit (drop_front is_blank bytes)) || has_dated_comma bytes

-- a holder that might be read so by amend, too, or as years behind a holder
abbrev pub may_be_read_on : List ℕ → Bool
may_be_read_on holder =
    may_be_misread holder || goes_on holder
    || list_any (λ lead. starts_with nat_eq holder lead) (codes ":" ∷ codes "(c)" ∷ [])
    || has_dated_comma holder

-- years in order, and of four digits, if there are some
abbrev pub CanBeWritten : Option Years → Type 0
CanBeWritten None = Unit {0}
CanBeWritten (Some years) = (years.low ≤ years.high) × (years.high ≤ 9999)

-- a year of four digits, if there is one
abbrev pub HasFourDigits : Option ℕ → Type 0
HasFourDigits None = Unit {0}
HasFourDigits (Some year) = year ≤ 9999

-- ---- notices that are read again for certain

-- a notice that is written as an addition is, of a holder that can't be read on as years or a prefix, neither as it is
-- nor as it becomes
pub record IsPlainAddition (a : Amendments) (text : List ℕ) : Type 0 where
  pub prefix : Prefix
  pub years : Option Years
  pub holder : List ℕ
  pub is : text ≡ notice_written prefix years holder
  pub can : CanBeWritten years
  pub some : all_blank holder ≡ false
  pub trim : trimmed is_blank holder ≡ holder
  pub clear : may_be_read_on holder ≡ false
  pub new_clear : may_be_read_on (text_amended a.replaced_holders holder) ≡ false

-- amendments that change no notice: they only remove some
pub record OnlyRemoveNotices (a : Amendments) : Type 0 where
  pub replaced : a.replaced_holders ≡ []
  pub until : a.until ≡ None
  pub prefix : a.prefix ≡ None
