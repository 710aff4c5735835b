-- What committing a step leaves, and rolling it back. The heads are given by their texts.
use Rattle.std.specs.Prelude.{◌≡◌, ◌⊎◌, ℕ, List, Some}
use Rattle.reuse_change.specs.Files.{Files, tree_of}
use Rattle.reuse_change.specs.declared.change.Change.{Change}
use Rattle.reuse_change.specs.Entry.{opposite, LeadsBy, SomeMade, ArePartlyMade}
use Rattle.reuse_journal.specs.JournalFiles.{head_path}
use Rattle.reuse_change.specs.Tree.{Sets, undo_folder_of}
use Rattle.reuse_change.specs.declared.direction.Direction.{Direction}

-- the folder of the journal has this head then, and its other files stay
abbrev pub SetsHead : List ℕ → Files → Files → Type 0
SetsHead head before after = Sets head_path (Some head) (undo_folder_of before) (undo_folder_of after)

-- all changes are made, and this is the head
pub record IsCarriedOut (direction : Direction) (changes : List Change) (head : List ℕ)
    (before after : Files) : Type 0 where
  pub tree : LeadsBy direction changes (tree_of before) (tree_of after)
  pub sets : SetsHead head before after

-- some changes are made, and this is the head
pub record IsStopped (direction : Direction) (changes : List Change) (head : List ℕ)
    (before after : Files) : Type 0 where
  pub tree : SomeMade direction changes (tree_of before) (tree_of after)
  pub sets : SetsHead head before after

-- the files were those now with some of the changes made, none of which is made now, and this is the head
pub record IsRolledBack (direction : Direction) (changes : List Change) (head : List ℕ)
    (before after : Files) : Type 0 where
  pub partly : ArePartlyMade direction changes (tree_of after) (tree_of before)
  pub sets : SetsHead head before after

-- on the way back to a tree: some of the changes are still made under the old head, or none under the new one
abbrev pub StopsRollingBack : Direction → List Change → List ℕ → Files → Files → Files → Type 0
StopsRollingBack direction changes head start before after =
    (SomeMade direction changes start (tree_of after) × (undo_folder_of after ≡ undo_folder_of before))
    ⊎ ((tree_of after ≡ start) × SetsHead head before after)

-- rolling back stops: some of the changes are rolled back under the head that was there, or all that were made are
-- under the new one
abbrev pub StopsBack : Direction → List Change → List ℕ → Files → Files → Type 0
StopsBack direction changes head before after =
    (SomeMade (opposite direction) changes (tree_of before) (tree_of after)
    × (undo_folder_of after ≡ undo_folder_of before))
    ⊎ IsRolledBack direction changes head before after
