-- What the seals of a step say of its files.
use Rattle.std.specs.Prelude.{◌≡◌, true}
use Rattle.std.specs.Option.{option_map}
use Rattle.std.specs.FinMap.{get}
use Rattle.sha2.specs.Sha256.{sha256}
use Rattle.reuse_change.specs.Files.{Files, Clashes}
use Rattle.reuse_change.specs.Change.{path_of}
use Rattle.reuse_store.specs.Apply.{IsReadyByRange}
use Rattle.reuse_change.specs.declared.change.Change.{Change}
use Rattle.reuse_change.specs.Entry.{makes}
use Rattle.reuse_journal.specs.Journal.{State}
use Rattle.reuse_change.specs.declared.direction.Direction.{Direction}
use Rattle.reuse_change.specs.declared.direction.Direction.TheVariants.{Forward, Backward}

-- the tree from which a run's step is gone through this way: that before the run, or that after it
abbrev pub tree_for : Direction → State → State → Files
tree_for Forward first second = first.tree
tree_for Backward first second = second.tree

-- the file of the change has the range, the length and the SHA-256 that it had on the tree left
pub record IsAsLeft (direction : Direction) (left now : Files) (change : Change) : Type 0 where
  pub range : IsReadyByRange direction change (get now (path_of change))
  pub digest : option_map sha256 (get now (path_of change)) ≡ option_map sha256 (get left (path_of change))

-- the file of the change is byte for byte as on the tree left, and nothing clashes with one that the change makes
pub record IsUntouched (direction : Direction) (left now : Files) (change : Change) : Type 0 where
  pub same : get now (path_of change) ≡ get left (path_of change)
  pub free : makes direction change ≡ true → ¬ (Clashes now (path_of change))

-- the change has one file, or none, on both trees, if it has one digest on both
abbrev pub IsDistinguished : Files → Files → Change → Type 0
IsDistinguished left now change = option_map sha256 (get now (path_of change)) ≡ option_map sha256
    (get left (path_of change)) → get now (path_of change) ≡ get left (path_of change)
