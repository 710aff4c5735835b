-- Recovering: a pending step is rolled back wherever it can be, and its other paths are left as they are.
use Rattle.std.specs.Prelude.{◌≡◌, ◌⊎◌, ◌↔◌, ℕ, Bool, false, List, [], ◌∷◌, ◌++◌, filter, not, Some, None, Result, Err}
use Rattle.std.specs.List.{All}
use Rattle.std.specs.FinMap.{get}
use Rattle.reuse_change.specs.Change.{path_of}
use Rattle.reuse_change.specs.Entry.{touches, opposite, AppliesBy, IsReady, IsEntry, CanBeMade, CanBeRolledBack}
use Rattle.reuse_change.specs.Files.{Files, tree_of}
use Rattle.reuse_tree.specs.Head.{direction_of}
use Rattle.reuse_change.specs.Listing.{is_among}
use Rattle.reuse_change.specs.Tree.{undo_folder_of}
use Rattle.reuse_change.specs.declared.change.Change.{Change}
use Rattle.reuse_tree.specs.declared.journal.head.PendingDirection.{PendingDirection}
use Rattle.reuse_change.specs.declared.direction.Direction.{Direction}
use Rattle.reuse_journal.specs.Journal.{Recorded, Journal, State}
use Rattle.reuse_journal.specs.JournalFiles.{head_path, number_of, IsKeptIn, KeepsJournal}
use Rattle.reuse_journal.specs.Opening.{NoFileAbove, IsFirstBad, IsStuckAt}
use Rattle.reuse_journal.specs.Remembered.{IsSameBut}
use Rattle.reuse_journal.specs.CommittedState.{IsCommittedState, IsTree}
use Rattle.reuse_command.specs.Answer.{nothing_recovered}
use Rattle.reuse_command.specs.declared.reply.Recovered.{Recovered}
use Rattle.reuse_command.specs.declared.reply.Refusal.{Refusal}
use Rattle.reuse_command.specs.declared.reply.Refusal.TheVariants.{BadJournal, Moved}

-- ---- the paths

-- the paths of the changes at which the first holds, in their order; at every other change the second holds
abbrev pub Picks : (Yes No : Change → Type 0) → List Change → List (List ℕ) → Type 0
Picks Yes No [] paths = paths ≡ []
Picks Yes No (change ∷ changes) paths =
    (Yes change × (rest : List (List ℕ)) × (paths ≡ path_of change ∷ rest) × Picks Yes No changes rest)
    ⊎ (No change × Picks Yes No changes paths)

-- the paths at which the changes are made this way, and can be rolled back
abbrev pub AreMade : Direction → Files → List Change → List (List ℕ) → Type 0
AreMade direction tree changes paths =
    Picks (CanBeMade (opposite direction) tree) (λ change. ¬ (CanBeMade (opposite direction) tree change)) changes paths

-- the paths at which they can't be rolled back: the file is neither as before the change nor as after it, or a file
-- that would be made again clashes
abbrev pub AreStuck : Direction → Files → List Change → List (List ℕ) → Type 0
AreStuck direction tree changes paths =
    Picks (λ change. ¬ (CanBeRolledBack direction tree change)) (CanBeRolledBack direction tree) changes paths

-- ---- the tree

-- What recovering makes of the path of a change. As before the change it stays; where the change is made and can be
-- rolled back, it is; and where it can't be, the path stays.
abbrev pub RecoversAt : Direction → (before after : Files) → Change → Type 0
RecoversAt direction before after change =
    (IsReady direction change (get before (path_of change))
    × (get after (path_of change) ≡ get before (path_of change)))
    ⊎ (CanBeMade (opposite direction) before change
    × AppliesBy (opposite direction) change (get before (path_of change)) (get after (path_of change)))
    ⊎ (¬ (CanBeRolledBack direction before change) × (get after (path_of change) ≡ get before (path_of change)))

-- so it is at each path of the changes, and no other path differs
pub record RecoversTree (direction : Direction) (changes : List Change) (before after : Files) : Type 0 where
  pub each : All (RecoversAt direction before after) changes
  pub others : (path : List ℕ) → touches changes path ≡ false → get after path ≡ get before path

-- ---- the files

-- the journal is without fault, and no step is pending in it
pub record HasNonePending (journal : Journal) (files : Files) : Type 0 where
  pub above : NoFileAbove files
  pub keeps : KeepsJournal (undo_folder_of files) journal None

-- the journal is without fault, and this step is pending in it
pub record HasPending (direction : PendingDirection) (step : Recorded) (journal : Journal)
    (files : Files) : Type 0 where
  pub above : NoFileAbove files
  pub keeps : KeepsJournal (undo_folder_of files) journal
      (Some (record { entry = number_of step; direction = direction }))
  pub kept : IsKeptIn (undo_folder_of files) step

-- the tree is recovered, the same steps are listed, and none is pending; nothing else of the journal's folder differs
pub record IsRecovered (direction : PendingDirection) (step : Recorded) (journal : Journal)
    (before after : Files) : Type 0 where
  pub tree : RecoversTree (direction_of direction) step.changes (tree_of before) (tree_of after)
  pub stands : IsCommittedState after (record { tree = tree_of after; journal = journal })
  pub folder : IsSameBut head_path (undo_folder_of before) (undo_folder_of after)

-- the step is pending, and recovering these files leads to the committed state
pub record RecoversTo (direction : PendingDirection) (step : Recorded) (held : State) (files : Files) : Type 0 where
  pub good : IsTree held.tree
  pub pending : HasPending direction step held.journal files
  pub tree : RecoversTree (direction_of direction) step.changes (tree_of files) held.tree

-- the answer reports the step, and each path that was rolled back or left; no path is left where that wasn't asked for
pub record AnswersRecovery (skip_moved : Bool) (direction : PendingDirection) (step : Recorded) (files : Files)
    (reported : Recovered) : Type 0 where
  pub number : reported.number ≡ Some (number_of step)
  pub changed : AreMade (direction_of direction) (tree_of files) step.changes reported.changed
  pub skipped : AreStuck (direction_of direction) (tree_of files) step.changes reported.skipped
  pub none : skip_moved ≡ false → reported.skipped ≡ []

-- what is answered and left: nothing, where no step was pending; and else the step is recovered
abbrev pub RecoversFiles : Bool → (before after : Files) → Recovered → Type 0
RecoversFiles skip_moved before after reported =
    ((journal : Journal) × HasNonePending journal before × (reported ≡ nothing_recovered) × (after ≡ before))
    ⊎ ((direction : PendingDirection) × (step : Recorded) × (journal : Journal)
    × HasPending direction step journal before × AnswersRecovery skip_moved direction step before reported
    × IsRecovered direction step journal before after)

-- some of the paths that can be rolled back are, and no other path differs
pub record SomeRecovered (direction : Direction) (changes : List Change) (before after : Files) : Type 0 where
  pub each : All (λ change. (get after (path_of change) ≡ get before (path_of change))
      ⊎ (CanBeMade (opposite direction) before change
      × AppliesBy (opposite direction) change (get before (path_of change)) (get after (path_of change)))) changes
  pub others : (path : List ℕ) → touches changes path ≡ false → get after path ≡ get before path

-- the step is pending still, and each of its paths is as it was or is rolled back
pub record IsHalfway (direction : PendingDirection) (step : Recorded) (journal : Journal)
    (before after : Files) : Type 0 where
  pub pending : HasPending direction step journal after
  pub tree : SomeRecovered (direction_of direction) step.changes (tree_of before) (tree_of after)

-- where recovering stops: the step is recovered, or halfway
abbrev pub StopsRecovering : (before after : Files) → Type 0
StopsRecovering before after =
    (direction : PendingDirection) × (step : Recorded) × (journal : Journal) × HasPending direction step journal before
    × (IsRecovered direction step journal before after ⊎ IsHalfway direction step journal before after)

-- Unless an I/O error or an allocation failure is reported, recovering is refused as a bad journal exactly at the first
-- path at fault, and as moved exactly at the first path that is stuck, where none is to be skipped.
pub record RefusesRecovery (skip_moved : Bool) (files : Files) (answer : Result Recovered Refusal) : Type 0 where
  pub bad : (path : List ℕ) → (answer ≡ Err (BadJournal path)) ↔ IsFirstBad files path
  pub moved : (path : List ℕ) → (answer ≡ Err (Moved path)) ↔ ((skip_moved ≡ false) × IsStuckAt files path)

-- ---- for private clauses

-- what is found of some changes: the paths that can be rolled back, and those that are stuck
pub record AreFound (direction : Direction) (tree : Files) (changes : List Change)
    (changed skipped : List (List ℕ)) : Type 0 where
  pub made : AreMade direction tree changes changed
  pub stuck : AreStuck direction tree changes skipped

-- one path more
abbrev pub IsLonger : List (List ℕ) → Change → List (List ℕ) → Type 0
IsLonger old change new = new ≡ old ++ path_of change ∷ []

-- what one change more adds: nothing where it isn't made, else its path to the ones or to the others
abbrev pub FindsNext : Direction → Files → Change → (made more_made stuck more_stuck : List (List ℕ)) → Type 0
FindsNext direction tree change made more_made stuck more_stuck =
    (IsReady direction change (get tree (path_of change)) × (more_made ≡ made) × (more_stuck ≡ stuck))
    ⊎ (¬ (IsReady direction change (get tree (path_of change))) × CanBeMade (opposite direction) tree change
    × IsLonger made change more_made × (more_stuck ≡ stuck))
    ⊎ (¬ (CanBeRolledBack direction tree change) × (more_made ≡ made) × IsLonger stuck change more_stuck)

-- the changes of which none is of these paths
abbrev pub changes_besides : List (List ℕ) → List Change → List Change
changes_besides paths changes = filter (λ change. not (is_among paths (path_of change))) changes

-- the changes are some of an entry's, perhaps none
abbrev pub ArePart : List Change → Type 0
ArePart changes = (changes ≡ []) ⊎ IsEntry changes
