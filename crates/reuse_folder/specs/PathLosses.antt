-- What a loss of power may leave, path by path, if at the start not every file of the tree was durable.
use Rattle.std.specs.Prelude.{◌≡◌, ◌⊎◌, ℕ, false, List, [], ◌∷◌, Ok}
use Rattle.std.specs.List.{Contains}
use Rattle.std.specs.FinMap.{get}
use Rattle.reuse_change.specs.Entry.{touches}
use Rattle.reuse_change.specs.Files.{Files, tree_of}
use Rattle.reuse_change.specs.Tree.{undo_folder_of}
use Rattle.reuse_store.specs.Calls.{Call}
use Rattle.reuse_store.specs.Calls.Call.{SyncCall}
use Rattle.reuse_folder.specs.Honesty.{IsCrashState}

-- What might be left at the start is supposed to be this: the tree as it is, beside any journal that might really be
-- left.
pub record SupposesDurableTree (start : Files) (initial supposed : List Files) : Type 0 where
  pub trees : (other : Files) → Contains supposed other → tree_of other ≡ tree_of start
  pub journals : (kept : Files) → Contains initial kept
      → (other : Files) × Contains supposed other × (undo_folder_of other ≡ undo_folder_of kept)

-- no barrier of these calls that succeeded was over the path
abbrev pub IsNeverSynced : List ℕ → List Call → Type 0
IsNeverSynced path [] = Unit {0}
IsNeverSynced path (SyncCall changes (Ok done) ∷ calls) = (touches changes path ≡ false) × IsNeverSynced path calls
IsNeverSynced path (call ∷ calls) = IsNeverSynced path calls

-- What is left has the journal of the other, and its file at each path; but where no barrier was over the path, it may
-- have the file that was kept from the start.
pub record IsOtherOrKept (calls : List Call) (kept other left : Files) : Type 0 where
  pub journal : undo_folder_of left ≡ undo_folder_of other
  pub each : (path : List ℕ) → (get left path ≡ get other path)
      ⊎ ((get left path ≡ get kept path) × IsNeverSynced path calls)

-- it is so of one that might be left of what is supposed, and of one that might really be left at the start
abbrev pub IsLeftByPaths : (start : Files) → (initial supposed : List Files) → List Call → Files → Type 0
IsLeftByPaths start initial supposed calls left =
    (other : Files) × (kept : Files) × IsCrashState start supposed calls other × IsCrashState start initial [] kept
    × IsOtherOrKept calls kept other left
