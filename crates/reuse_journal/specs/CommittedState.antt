-- Committed states: a tree, and the journal beside it, without a pending entry. Files in doubt between two of them.
use Rattle.std.specs.Prelude.{◌≡◌, ◌⊎◌, ◌+◌, List, [], ◌∷◌, Some, None}
use Rattle.std.specs.FinMap.{get}
use Rattle.reuse_change.specs.Layout.{above_journal}
use Rattle.reuse_change.specs.Path.{journal_folder}
use Rattle.reuse_change.specs.Files.{Files, AreFiles, tree_of}
use Rattle.reuse_change.specs.Tree.{undo_folder_of}
use Rattle.reuse_change.specs.Entry.{LeadsBy, ArePartlyMade}
use Rattle.reuse_journal.specs.Journal.{Recorded, Journal, State}
use Rattle.reuse_journal.specs.JournalFiles.{KeepsJournal, IsKeptIn, number_of}
use Rattle.reuse_tree.specs.Head.{direction_of}
use Rattle.reuse_tree.specs.declared.journal.head.PendingDirection.{PendingDirection}
use Rattle.reuse_tree.specs.declared.journal.head.PendingDirection.TheVariants.{Do, Undo, Redo}

-- a tree beside a journal: no path is a folder of another, and neither `.reuse` nor `.reuse/undo` is a file
pub record IsTree (tree : Files) : Type 0 where
  pub are_files : AreFiles tree
  pub no_reuse : get tree above_journal ≡ None
  pub no_undo : get tree journal_folder ≡ None

-- the files are this tree and this journal, and nothing is pending
pub record IsCommittedState (files : Files) (held : State) : Type 0 where
  pub tree : tree_of files ≡ held.tree
  pub good : IsTree held.tree
  pub journal : KeepsJournal (undo_folder_of files) held.journal None

-- what a step makes of the journal. A new one is the last done, and none can be redone then; an undone one is the next
-- to be redone; a redone one is the last done again.
abbrev pub JournalTransition : PendingDirection → Recorded → Journal → Journal → Type 0
JournalTransition Do step old new =
    (number_of step ≡ old.used + 1) × (new ≡ record { done = step ∷ old.done; undone = []; used = old.used + 1 })
JournalTransition Undo step old new = (steps : List Recorded) × (old.done ≡ step ∷ steps)
    × (new ≡ record { done = steps; undone = step ∷ old.undone; used = old.used })
JournalTransition Redo step old new = (steps : List Recorded) × (old.undone ≡ step ∷ steps)
    × (new ≡ record { done = step ∷ old.done; undone = steps; used = old.used })

-- the second committed state is that after the step
pub record IsStep (direction : PendingDirection) (step : Recorded) (first second : State) : Type 0 where
  pub leads : LeadsBy (direction_of direction) step.changes first.tree second.tree
  pub transition : JournalTransition direction step first.journal second.journal

-- the step is pending from the committed state: it is pending in the journal, and some of its changes are made
pub record IsPending (direction : PendingDirection) (step : Recorded) (first : State) (files : Files) : Type 0 where
  pub good : IsTree first.tree
  pub journal : KeepsJournal (undo_folder_of files) first.journal
      (Some (record { entry = number_of step; direction = direction }))
  pub kept : IsKeptIn (undo_folder_of files) step
  pub partly : ArePartlyMade (direction_of direction) step.changes first.tree (tree_of files)

-- the files are one of the two committed states, or a step is pending from the first to the second
abbrev pub BetweenStates : State → State → Files → Type 0
BetweenStates first second files =
    IsCommittedState files first
    ⊎ IsCommittedState files second
    ⊎ ((direction : PendingDirection) × (step : Recorded) × IsStep direction step first second
    × IsPending direction step first files)
