-- What amendments don't name (this project's own).
use Rattle.std.specs.Prelude.{◌≡◌, ◌≢◌, ℕ, false, List, None, Some}
use Rattle.std.specs.List.{AllByRecursion}
use Rattle.reuse_amend.specs.declared.replacements.Replacement.{Replacement}
use Rattle.reuse_amend.specs.declared.amendments.Amendments.{Amendments}
use Rattle.reuse_notice.specs.MergeSteps.{is_among}
use Rattle.reuse_amend.specs.Pieces.{pieces_of}
use Rattle.reuse_amend.specs.NoticeParts.{Parts, parts_of}
use Rattle.reuse_amend.specs.Amending.{if_concerned}

-- a text is none of those that are replaced
abbrev pub IsNoOld : List Replacement → List ℕ → Type 0
IsNoOld replacements text = AllByRecursion (λ r. text ≢ r.old) replacements

-- nor is a token of it
abbrev pub HasNoOld : List Replacement → List ℕ → Type 0
HasNoOld replacements text = AllByRecursion (λ r. AllByRecursion (λ p. p.0 ≢ r.old) (pieces_of text)) replacements

-- a licence that the amendments don't name
pub record IsOtherLicence (a : Amendments) (value : List ℕ) : Type 0 where
  pub whole : IsNoOld a.replaced_licences value
  pub tokens : HasNoOld a.replaced_licences value
  pub stays : is_among a.removed_licences value ≡ false

-- a contributor that they don't name
pub record IsOtherContributor (a : Amendments) (text : List ℕ) : Type 0 where
  pub whole : IsNoOld a.replaced_contributors text
  pub stays : is_among a.removed_contributors text ≡ false

-- a notice whose holder they don't name, and for which they set neither years nor a prefix
pub record IsOtherNotice (a : Amendments) (text : List ℕ) : Type 0 where
  pub parts : Parts
  pub read : parts_of text ≡ Some parts
  pub whole : IsNoOld a.replaced_holders parts.holder
  pub stays : is_among a.removed_holders parts.holder ≡ false
  pub until : if_concerned a parts.holder a.until ≡ None
  pub prefix : if_concerned a parts.holder a.prefix ≡ None
