-- What an addition of styles leaves, in other words.
use Rattle.std.specs.Prelude.{◌≡◌, ◌≢◌, ℕ, true, List, ◌++◌, Option, Some, None, Ok}
use Rattle.std.specs.FinMap.{get}
use Rattle.std.specs.List.{All}
use Rattle.reuse_ready.specs.Additions.{has_kind}
use Rattle.reuse_ready.specs.declared.additions.NameAddition.{NameAddition}
use Rattle.reuse_ready.specs.declared.additions.StyleAdditions.{StyleAdditions}
use Rattle.reuse_change.specs.Files.{Files}
use Rattle.reuse_style.specs.Kinds.{OwnKinds}
use Rattle.reuse_plan.specs.TreeStyles.{styles_in, styles_path, comments_path}

-- a file that was there has bytes behind those that it had
abbrev pub StandsInFront : Option (List ℕ) → Option (List ℕ) → Type 0
StandsInFront None after = Unit {0}
StandsInFront (Some bytes) after = (more : List ℕ) × (after ≡ Some (bytes ++ more))

-- a name that had no style of the tree's own has the one that is added
abbrev pub IsNamed : OwnKinds → OwnKinds → NameAddition → Type 0
IsNamed own now name = own.names name.name ≡ None → has_kind (now.names name.name) name.style ≡ true

-- the tree's own styles were good and are, each name that had none has its style, what stood in the two files stands in
-- front there, and no other path differs
pub record AddsStyles (additions : StyleAdditions) (before after : Files) : Type 0 where
  pub own : OwnKinds
  pub was : styles_in before ≡ Ok own
  pub now : OwnKinds
  pub is : styles_in after ≡ Ok now
  pub named : All (IsNamed own now) additions.names
  pub comments : StandsInFront (get before comments_path) (get after comments_path)
  pub styles : StandsInFront (get before styles_path) (get after styles_path)
  pub others : (path : List ℕ) → path ≢ comments_path → path ≢ styles_path → get after path ≡ get before path
