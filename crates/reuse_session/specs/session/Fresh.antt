-- Trees that no session has worked on.
use Rattle.std.specs.Prelude.{ℕ, List, [], IsSome, IsTrue}
use Rattle.std.specs.FinMap.{get}
use Rattle.reuse_change.specs.Path.{lies_under, journal_folder}
use Rattle.reuse_change.specs.Files.{Files}
use Rattle.reuse_session.specs.session.Machine.{Snapshots}
use Rattle.reuse_journal.specs.CommittedState.{IsTree}

-- the files are a tree, and nothing lies under `.reuse/undo/`
pub record IsFresh (files : Files) : Type 0 where
  pub tree : IsTree files
  pub no_journal : (path : List ℕ) → IsSome (get files path) → ¬ (IsTrue (lies_under path journal_folder))

-- the model before its first event: the tree, no earlier and no later ones, and no number used
abbrev pub first_state : Files → Snapshots
first_state tree = record { tree = tree; past = []; future = []; used = 0 }
