-- What a loss of power may leave: behind a barrier, and where some puts were made or not.
use Rattle.std.specs.Prelude.{◌≡◌, ◌⊎◌, ℕ, List, Option, true, false}
use Rattle.std.specs.FinMap.{get}
use Rattle.reuse_change.specs.Entry.{touches, SomeMade}
use Rattle.reuse_change.specs.Files.{Files, tree_of}
use Rattle.reuse_change.specs.Tree.{undo_folder_of, Sets}
use Rattle.reuse_change.specs.declared.change.Change.{Change}
use Rattle.reuse_change.specs.declared.direction.Direction.{Direction}

-- the files of the journal and those at the paths of the changes are left as they are; every other path holds what it
-- does, or what it
-- might hold before
pub record DurableAfterBarrier (changes : List Change) (files kept left : Files) : Type 0 where
  pub folder : undo_folder_of left ≡ undo_folder_of files
  pub here : (path : List ℕ) → touches changes path ≡ true → get left path ≡ get files path
  pub others : (path : List ℕ) → touches changes path ≡ false
      → (get left path ≡ get files path) ⊎ (get left path ≡ get kept path)

-- it is left as it might be before, or with the path holding one such file
abbrev pub WithOrWithout : (Files → Type 0) → List ℕ → (Option (List ℕ) → Type 0) → Files → Type 0
WithOrWithout MightBe path IsOne left =
    MightBe left ⊎ ((kept : Files) × MightBe kept × (file : Option (List ℕ)) × IsOne file × Sets path file kept left)

-- some of the changes are made on a tree, gone through this way, beside these files of the journal
pub record IsMidway (direction : Direction) (changes : List Change) (start journal left : Files) : Type 0 where
  pub tree : SomeMade direction changes start (tree_of left)
  pub folder : undo_folder_of left ≡ journal
