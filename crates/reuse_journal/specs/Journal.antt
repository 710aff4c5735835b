-- The journal: what was done and what was undone, as changes.
use Rattle.std.specs.Prelude.{◌≡◌, ℕ, true, false, List, [], ◌∷◌, ◌++◌, length, map, reverse, Option, Some, None}
use Rattle.std.specs.Prelude.{Result, Ok, Err}
use Rattle.std.specs.List.{All}
use Rattle.reuse_change.specs.Files.{Files}
use Rattle.reuse_change.specs.declared.change.Change.{Change}
use Rattle.reuse_change.specs.Entry.{paths_of, LeadsBy, CanBeMade, IsFirstStuck}
use Rattle.reuse_journal.specs.Labels.{Label, row_of}
use Rattle.reuse_change.specs.declared.direction.Direction.{Direction}
use Rattle.reuse_change.specs.declared.direction.Direction.TheVariants as direction
use Rattle.reuse_command.specs.declared.reply.Row.{Row}
use Rattle.reuse_command.specs.declared.reply.Response.{Response}
use Rattle.reuse_command.specs.declared.reply.Response.TheVariants as reply
use Rattle.reuse_command.specs.declared.reply.Refusal.{Refusal}
use Rattle.reuse_command.specs.declared.reply.Refusal.TheVariants.{Moved, NothingToUndo, NothingToRedo}

-- a step that the journal keeps: its changes, and what names it
pub record Recorded : Type 0 where
  pub label : Label
  pub changes : List Change

-- the steps done (the newest first), those undone (the next to be redone first), and how many numbers are used
pub record Journal : Type 0 where
  pub done : List Recorded
  pub undone : List Recorded
  pub used : ℕ

-- a tree, and the journal beside it
pub record State : Type 0 where
  pub tree : Files
  pub journal : Journal

-- Each change of the step can be made this way, and they are made. Or the first that can't be names the refusal, and
-- nothing changes.
abbrev pub GoesOneStep : Direction → Recorded → (List (List ℕ) → Response) → Journal → State → Result Response Refusal
    → State → Type 0
GoesOneStep direction step reply moved old (Ok given) new =
    (given ≡ reply (paths_of step.changes)) × All (CanBeMade direction old.tree) step.changes
    × LeadsBy direction step.changes old.tree new.tree × (new.journal ≡ moved)
GoesOneStep direction step reply moved old (Err refusal) new =
    ((path : List ℕ) × (refusal ≡ Moved path) × IsFirstStuck direction old.tree step.changes path) × (new ≡ old)

-- the steps that a way goes on with, the next first: back over those done, and on over those undone
abbrev pub ahead : Direction → Journal → List Recorded
ahead direction.Backward journal = journal.done
ahead direction.Forward journal = journal.undone

-- how many changes the first of them has
abbrev pub next_count : List Recorded → ℕ
next_count [] = 0
next_count (step ∷ steps) = length step.changes

-- the changes of the first of them
abbrev pub changes_ahead : List Recorded → Option (List Change)
changes_ahead [] = None
changes_ahead (step ∷ steps) = Some step.changes

-- the journal after the first of them, which is the first behind then
abbrev pub moved_on : Direction → Recorded → List Recorded → Journal → Journal
moved_on direction.Backward step steps old = record { done = steps; undone = step ∷ old.undone; used = old.used }
moved_on direction.Forward step steps old = record { done = step ∷ old.done; undone = steps; used = old.used }

-- the answer with a step's paths, and that where there is no step
abbrev pub reply_of : Direction → List (List ℕ) → Response
reply_of direction.Backward = reply.Undone
reply_of direction.Forward = reply.Redone

abbrev pub end_of : Direction → Refusal
end_of direction.Backward = NothingToUndo
end_of direction.Forward = NothingToRedo

-- what a call answers and leaves that goes one step this way
abbrev pub Replays : Direction → List Recorded → State → Result Response Refusal → State → Type 0
Replays direction [] old result new = (result ≡ Err (end_of direction)) × (new ≡ old)
Replays direction (step ∷ steps) old result new =
    GoesOneStep direction step (reply_of direction) (moved_on direction step steps old.journal) old result new

-- what undo answers and leaves: the last step done is undone, and is the next to be redone
abbrev pub Undoes : List Recorded → State → Result Response Refusal → State → Type 0
Undoes = Replays direction.Backward

-- what redo answers and leaves: the next step undone is made again, and is the last done
abbrev pub Redoes : List Recorded → State → Result Response Refusal → State → Type 0
Redoes = Replays direction.Forward

-- the rows of a log: the steps done, the oldest first, then those undone, the next to be redone first
abbrev pub rows_in : Journal → List Row
rows_in journal =
    map (λ step. row_of step.label (length step.changes) true) (reverse journal.done)
    ++ map (λ step. row_of step.label (length step.changes) false) journal.undone
