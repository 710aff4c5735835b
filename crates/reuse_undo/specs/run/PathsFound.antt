-- What a loss of power may leave of a folder, path by path, if at the start not every file of the tree was durable.
use Rattle.std.specs.Prelude.{◌≡◌, ◌⊎◌, ℕ, List, Option}
use Rattle.std.specs.FinMap.{get}
use Rattle.reuse_change.specs.Files.{Files, tree_of}
use Rattle.reuse_change.specs.Tree.{undo_folder_of}
use Rattle.reuse_session.specs.session.Machine.{Snapshots}
use Rattle.reuse_session.specs.session.PathLosses.{IsFileOf}

-- What is left has a journal that may be left where the tree was durable. Each path of its tree has the file of the
-- state, or that of the next one. But a path at which one of these is the file of the start may have what was kept
-- there.
pub record IsFoundByPaths (MayBe : Files → Type 0) (state : Snapshots) (next : Option Snapshots)
    (start kept left : Files) : Type 0 where
  pub other : Files
  pub may : MayBe other
  pub journal : undo_folder_of left ≡ undo_folder_of other
  pub each : (path : List ℕ) → IsFileOf state next path (get (tree_of left) path)
      ⊎ ((get (tree_of left) path ≡ get (tree_of kept) path) × IsFileOf state next path (get (tree_of start) path))
