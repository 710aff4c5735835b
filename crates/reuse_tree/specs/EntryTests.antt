-- For private clauses: what is tested of the changes of an entry.
use Rattle.std.specs.Prelude.{◌≡◌, ℕ, ◌<◌, ◌≤◌, ◌||◌, true, false, List, [], ◌∷◌, length, IsTrue}
use Rattle.std.specs.List.{All, AllByRecursion}
use Rattle.std.specs.List.Sorted.{IsStrictlySortedBy}
use Rattle.std.specs.Ordering.{nat_cmp}
use Rattle.std.specs.Cmp.Lexicographic.{slice_cmp}
use Rattle.reuse_change.specs.declared.layout.TheConstants.{LARGEST_ENTRY, MOST_CHANGES}
use Rattle.reuse_change.specs.Path.{is_path, lies_under}
use Rattle.reuse_change.specs.Change.{path_of, IsProper}
use Rattle.reuse_change.specs.declared.change.Change.{Change}
use Rattle.reuse_change.specs.Tree.{is_of_tree}
use Rattle.reuse_change.specs.Entry.{entry_size, paths_of, HasOwnDigest, IsSmall}

-- what is asked of one change
pub record IsSoundChange (change : Change) : Type 0 where
  pub path : IsTrue (is_path (path_of change))
  pub proper : IsProper change
  pub small : IsSmall change
  pub of_tree : is_of_tree (path_of change) ≡ true
  pub own : HasOwnDigest change

-- no path lies under another
abbrev pub AreApart : List (List ℕ) → Type 0
AreApart [] = Unit {0}
AreApart (path ∷ paths) =
    AllByRecursion (λ other. (lies_under other path || lies_under path other) ≡ false) paths × AreApart paths

-- the changes pass all tests
pub record Passes (changes : List Change) : Type 0 where
  pub some : 0 < length changes
  pub few : length changes ≤ MOST_CHANGES
  pub light : entry_size changes ≤ LARGEST_ENTRY
  pub each : All IsSoundChange changes
  pub ascending : IsStrictlySortedBy (slice_cmp nat_cmp) (paths_of changes)
  pub apart : AreApart (paths_of changes)
