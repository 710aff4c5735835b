-- Information that the contents of a comment can say (this project's own).
use Rattle.std.specs.Prelude.{◌≡◌, ℕ, List, All, Some, None}
use Rattle.reuse_notice.specs.declared.infos.Info.{Info}
use Rattle.reuse_notice.specs.declared.adding.Additions.{Additions}
use Rattle.reuse_notice.specs.Tags.{tag_of, trimmed}
use Rattle.reuse_notice.specs.Contents.{notice_text, contributor_value, licence_value, is_blank_content}
use Rattle.reuse_notice.specs.Sets.{IsSorted}
use Rattle.reuse_header.specs.Blocks.{without_returns}
use Rattle.reuse_header.specs.Writing.{contributor_text, licence_text}

-- each text reads as what it is, where `punct` are the style's punctuation; the sets are in order; and the free
-- contents are no tags, and none at their outer ends is blank
pub record IsSayable (punct : List ℕ) (info : Info) : Type 0 where
  pub notices : All (λ text. notice_text (tag_of punct text) ≡ Some text) info.notices
  pub contributors : All
      (λ value. contributor_value (tag_of punct (contributor_text value)) ≡ Some value) info.contributors
  pub licences : All (λ value. licence_value (tag_of punct (licence_text value)) ≡ Some value) info.licences
  pub free : All (λ content. (tag_of punct content ≡ None) × (without_returns content ≡ content)) info.free
  pub free_ends : trimmed (is_blank_content punct) info.free ≡ info.free
  pub notices_sorted : IsSorted info.notices
  pub contributors_sorted : IsSorted info.contributors
  pub licences_sorted : IsSorted info.licences

-- each text of the additions reads as what it is
pub record AreSayable (punct : List ℕ) (additions : Additions) : Type 0 where
  pub notices : All (λ text. notice_text (tag_of punct text) ≡ Some text) additions.notices
  pub contributors : All
      (λ value. contributor_value (tag_of punct (contributor_text value)) ≡ Some value) additions.contributors
  pub licences : All (λ value. licence_value (tag_of punct (licence_text value)) ≡ Some value) additions.licences
