-- Entries: changes that lead from one tree to another.
use Rattle.std.specs.Prelude.{◌≡◌, ◌≢◌, ◌⊎◌, ℕ, ◌+◌, ◌*◌, ◌<◌, ◌≤◌, Bool, true, false, ◌||◌, List, [], ◌∷◌, ◌++◌}
use Rattle.std.specs.Prelude.{length, map, sum_by, Option, Some}
use Rattle.std.specs.Ordering.{nat_cmp}
use Rattle.std.specs.Cmp.Lexicographic.{slice_cmp}
use Rattle.std.specs.List.{All, list_any}
use Rattle.std.specs.List.Sorted.{IsStrictlySortedBy}
use Rattle.std.specs.Str.{bytes_eq}
use Rattle.std.specs.FinMap.{get}
use Rattle.reuse_change.specs.Path.{lies_under}
use Rattle.reuse_change.specs.Files.{Files, Clashes}
use Rattle.reuse_change.specs.Change.{path_of, is_sealed, IsProper, Applies}
use Rattle.reuse_change.specs.Digest.{IsDigestOf}
use Rattle.reuse_change.specs.declared.change.Change.{Change}
use Rattle.reuse_change.specs.declared.change.Change.TheVariants.{Make, Drop, Splice}
use Rattle.reuse_text.specs.declared.TheConstants.{LONGEST_FILE}
use Rattle.reuse_change.specs.Tree.{is_of_tree}
use Rattle.reuse_change.specs.declared.layout.TheConstants.{LARGEST_ENTRY, MOST_CHANGES}
use Rattle.reuse_change.specs.declared.direction.Direction.{Direction}
use Rattle.reuse_change.specs.declared.direction.Direction.TheVariants.{Forward, Backward}

-- the paths of the changes
abbrev pub paths_of : List Change → List (List ℕ)
paths_of changes = map path_of changes

-- whether one of the changes is of the path
abbrev pub touches : List Change → List ℕ → Bool
touches changes path = list_any (λ change. bytes_eq path (path_of change)) changes

-- the file before and the file after have at most 16 MiB
abbrev pub IsSmall : Change → Type 0
IsSmall (Make path new after) = length new ≤ LONGEST_FILE
IsSmall (Drop path old before) = length old ≤ LONGEST_FILE
IsSmall (Splice path at old new rest seal) =
    (at + length old + rest ≤ LONGEST_FILE) × (at + length new + rest ≤ LONGEST_FILE)

-- the bytes that a change takes away, and those that it writes
abbrev pub removed_by : Change → List ℕ
removed_by (Make path new after) = []
removed_by (Drop path old before) = old
removed_by (Splice path at old new rest seal) = old

abbrev pub written_by : Change → List ℕ
written_by (Make path new after) = new
written_by (Drop path old before) = []
written_by (Splice path at old new rest seal) = new

-- the digest that is recorded of a file that is made or removed is that of its bytes
abbrev pub HasOwnDigest : Change → Type 0
HasOwnDigest (Make path new after) = IsDigestOf after (Some new)
HasOwnDigest (Drop path old before) = IsDigestOf before (Some old)
HasOwnDigest (Splice path at old new rest seal) = Unit {0}

-- all changes are sealed so, or none is
abbrev pub AreAllSealed : Bool → List Change → Type 0
AreAllSealed sealed changes = All (λ change. is_sealed change ≡ sealed) changes

-- what a change counts for in the size of an entry, beside its path and its bytes: more where it is sealed
abbrev pub fixed_size : Bool → ℕ
fixed_size false = 256
fixed_size true = 512

-- what a change counts for in the size of an entry
abbrev pub change_size : Change → ℕ
change_size change = fixed_size (is_sealed change) + 6 * length (path_of change) + 2 * length
    (removed_by change) + 2 * length (written_by change)

abbrev pub entry_size : List Change → ℕ
entry_size changes = 256 + sum_by change_size changes

-- changes that change something, of small files, at paths of the tree that ascend and of which none is a folder of
-- another, all of them sealed or none: at least one, not too many, and not too long together
pub record IsEntry (changes : List Change) : Type 0 where
  pub some : 0 < length changes
  pub proper : All IsProper changes
  pub small : All IsSmall changes
  pub of_tree : All (λ change. is_of_tree (path_of change) ≡ true) changes
  pub ascending : IsStrictlySortedBy (slice_cmp nat_cmp) (paths_of changes)
  pub apart : (path other : List ℕ) → touches changes path ≡ true → touches changes other ≡ true
      → (lies_under other path || lies_under path other) ≡ false
  pub few : length changes ≤ MOST_CHANGES
  pub light : entry_size changes ≤ LARGEST_ENTRY
  pub alike : (sealed : Bool) × AreAllSealed sealed changes
  pub own : All HasOwnDigest changes

-- gone through this way, the change leads from the one file to the other
abbrev pub AppliesBy : Direction → Change → Option (List ℕ) → Option (List ℕ) → Type 0
AppliesBy Forward change old new = Applies change old new
AppliesBy Backward change old new = Applies change new old

-- gone through this way, the change leads from these files to those, which differ at its path alone
pub record LeadsByOneChange (direction : Direction) (change : Change) (before after : Files) : Type 0 where
  pub here : AppliesBy direction change (get before (path_of change)) (get after (path_of change))
  pub elsewhere : (path : List ℕ) → path ≢ path_of change → get after path ≡ get before path

-- gone through this way, the changes lead from one tree to the other: each at its path, and no other path differs
pub record LeadsBy (direction : Direction) (changes : List Change) (before after : Files) : Type 0 where
  pub each : All
      (λ change. AppliesBy direction change (get before (path_of change)) (get after (path_of change))) changes
  pub others : (path : List ℕ) → touches changes path ≡ false → get after path ≡ get before path

-- some of the changes are made on the first tree, gone through this way, and no other path differs
pub record SomeMade (direction : Direction) (changes : List Change) (before now : Files) : Type 0 where
  pub each : All (λ change. (get now (path_of change) ≡ get before (path_of change))
      ⊎ AppliesBy direction change (get before (path_of change)) (get now (path_of change))) changes
  pub others : (path : List ℕ) → touches changes path ≡ false → get now path ≡ get before path

-- the changes lead from one tree to the other
abbrev pub LeadsAll : List Change → Files → Files → Type 0
LeadsAll changes before after = LeadsBy Forward changes before after

-- gone through this way, the change can be made of this file
abbrev pub IsReady : Direction → Change → Option (List ℕ) → Type 0
IsReady direction change file = (new : Option (List ℕ)) × AppliesBy direction change file new

-- each of the changes can be made of its file on the first tree, gone through this way, and some of them are made
pub record ArePartlyMade (direction : Direction) (changes : List Change) (before now : Files) : Type 0 where
  pub made : SomeMade direction changes before now
  pub ready : All (λ change. IsReady direction change (get before (path_of change))) changes

-- gone through this way, the change makes a file
abbrev pub makes : Direction → Change → Bool
makes Forward (Make path new after) = true
makes Backward (Drop path old before) = true
makes direction change = false

-- gone through this way, the change can be made on the tree: its file is as it needs it, and nothing clashes with one
-- that it makes
pub record CanBeMade (direction : Direction) (tree : Files) (change : Change) : Type 0 where
  pub ready : IsReady direction change (get tree (path_of change))
  pub free : makes direction change ≡ true → ¬ (Clashes tree (path_of change))

-- the changes are those of an entry, and each can be made this way on the tree
pub record CanGo (direction : Direction) (tree : Files) (changes : List Change) : Type 0 where
  pub entry : IsEntry changes
  pub each : All (CanBeMade direction tree) changes

-- the path is that of the first change of which this doesn't hold
pub record IsFirstWithout (Holds : Change → Type 0) (changes : List Change) (path : List ℕ) : Type 0 where
  pub before : List Change
  pub change : Change
  pub behind : List Change
  pub list : changes ≡ before ++ change ∷ behind
  pub here : path ≡ path_of change
  pub passed : All Holds before
  pub stuck : ¬ (Holds change)

-- the path is that of the first change that can't be made
abbrev pub IsFirstStuck : Direction → Files → List Change → List ℕ → Type 0
IsFirstStuck direction tree changes path = IsFirstWithout (CanBeMade direction tree) changes path

-- the other way
abbrev pub opposite : Direction → Direction
opposite Forward = Backward
opposite Backward = Forward

-- a change that may have been made this way: it isn't, or it can be rolled back
abbrev pub CanBeRolledBack : Direction → Files → Change → Type 0
CanBeRolledBack direction tree change =
    IsReady direction change (get tree (path_of change)) ⊎ CanBeMade (opposite direction) tree change
