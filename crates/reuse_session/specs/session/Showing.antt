-- Steps by their numbers, and what a session shows of one.
use Rattle.std.specs.Prelude.{◌≡◌, ◌≢◌, ℕ, Bool, true, false, List, length, Result, Ok, Err}
use Rattle.std.specs.List.{All, Contains}
use Rattle.reuse_change.specs.declared.change.Change.{Change}
use Rattle.reuse_journal.specs.Journal.{Recorded, Journal}
use Rattle.reuse_journal.specs.JournalFiles.{number_of}
use Rattle.reuse_session.specs.session.Machine.{Connects, Kept, Snapshots, kept_row}
use Rattle.reuse_journal.specs.Labels.{row_of}
use Rattle.reuse_command.specs.declared.reply.Refusal.{Refusal}
use Rattle.reuse_command.specs.declared.reply.Refusal.TheVariants.{NoSuchStep}
use Rattle.reuse_command.specs.declared.reply.Shown.{Shown}

-- ---- a journal

-- the steps that are done, or those that are undone
abbrev pub steps_in : Bool → Journal → List Recorded
steps_in true journal = journal.done
steps_in false journal = journal.undone

-- none of the steps has the number
abbrev pub IsUnused : ℕ → List Recorded → Type 0
IsUnused number steps = All (λ (step : Recorded). number_of step ≢ number) steps

-- what is shown is a step of the number, done or undone: its row of the log, and its changes
pub record Shows (journal : Journal) (number : ℕ) (shown : Shown) : Type 0 where
  pub step : Recorded
  pub is_in : Contains (steps_in shown.row.done journal) step
  pub numbered : number_of step ≡ number
  pub row : shown.row ≡ row_of step.label (length step.changes) shown.row.done
  pub changes : shown.changes ≡ step.changes

-- what showing a number answers: a step of it, or that there is none
abbrev pub ShowsIn : Journal → ℕ → Result Shown Refusal → Type 0
ShowsIn journal number (Ok shown) = Shows journal number shown
ShowsIn journal number (Err refusal) =
    (refusal ≡ NoSuchStep number) × IsUnused number journal.done × IsUnused number journal.undone

-- ---- the model

-- the steps that are done, or those that are undone
abbrev pub kept_in : Bool → Snapshots → List Kept
kept_in true state = state.past
kept_in false state = state.future

-- one of the steps has the number, and the changes lead from the tree before it to that after it
pub record LedBy (number : ℕ) (steps : List Kept) (changes : List Change) : Type 0 where
  pub kept : Kept
  pub is_in : Contains steps kept
  pub numbered : kept.label.number ≡ number
  pub connects : Connects changes kept.before kept.after

-- what is shown is a step of the number: its row of the model's log, and how its tree before it differs from that
-- after it
pub record ShowsAt (state : Snapshots) (number : ℕ) (shown : Shown) : Type 0 where
  pub step : LedBy number (kept_in shown.row.done state) shown.changes
  pub row : shown.row ≡ kept_row shown.row.done step.kept
