-- How amendments change a line: in the values of its tags alone (this project's own).
use Rattle.std.specs.Prelude.{◌≡◌, ℕ, true, List, ◌++◌, Option, None, Some, ◌⊎◌}
use Rattle.reuse_tags.specs.Ignored.{read_part}
use Rattle.reuse_tags.specs.Reading.{TagText, licence_tag, contributor_tag, notice_tag}
use Rattle.reuse_tags.specs.Around.{AroundText, around_of, is_bare}

-- another value stands in place of a line's, or the line, which says nothing else, is gone
abbrev pub HasOtherValue : AroundText → Option (List ℕ) → Type 0
HasOtherValue p None = is_bare p ≡ true
HasOtherValue p (Some new) = (value : List ℕ) × (new ≡ p.before ++ value ++ p.behind)

-- a line has a tag, and is changed in the value of that alone
pub record IsChangedAt (find : List ℕ → Option TagText) (line : List ℕ) (kept : Option (List ℕ)) : Type 0 where
  pub tag : TagText
  pub found : find (read_part line) ≡ Some tag
  pub joined : (let p = around_of line (read_part line) tag in line ≡ p.before ++ p.value ++ p.behind)
  pub changed : HasOtherValue (around_of line (read_part line) tag) kept

-- it stays, or is changed in the value of a tag
abbrev pub MayChangeAt : (List ℕ → Option TagText) → Option (List ℕ) → Option (List ℕ) → Type 0
MayChangeAt find None kept = kept ≡ None
MayChangeAt find (Some line) kept = (kept ≡ Some line) ⊎ IsChangedAt find line kept

-- a line is changed in its licence, its contributor and its notice alone, one after the other
pub record IsChangedInValues (line : List ℕ) (kept : Option (List ℕ)) : Type 0 where
  pub first : Option (List ℕ)
  pub second : Option (List ℕ)
  pub licence : MayChangeAt licence_tag (Some line) first
  pub contributor : MayChangeAt contributor_tag first second
  pub notice : MayChangeAt notice_tag second kept
