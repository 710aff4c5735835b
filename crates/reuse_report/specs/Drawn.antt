-- The diff of a dry run: of each path that would change, its file as it is and as the call would leave it.
use Rattle.std.specs.Prelude.{◌≡◌, ◌+◌, ◌≤◌, ℕ, List, ◌++◌, length}
use Rattle.std.specs.FinMap.{get}
use Rattle.std.specs.List.{All}
use Rattle.reuse_text.specs.declared.TheConstants.{LONGEST_FILE}
use Rattle.reuse_change.specs.Change.{path_of, inverse_of}
use Rattle.reuse_change.specs.Entry.{paths_of, IsSmall, LeadsBy}
use Rattle.reuse_change.specs.Files.{Files}
use Rattle.reuse_change.specs.Tree.{changed_paths}
use Rattle.reuse_change.specs.declared.change.Change.{Change}
use Rattle.reuse_change.specs.declared.direction.Direction.{Direction}
use Rattle.reuse_change.specs.declared.direction.Direction.TheVariants as go
use Rattle.reuse_command.specs.declared.path_outcome.PathOutcome.{PathOutcome}
use Rattle.reuse_command.specs.declared.reply.Response.TheVariants.{Preview}
use Rattle.reuse_diff.specs.DiffText.{IsDiff}
use Rattle.reuse_shown.specs.JoinedTexts.{AreJoined}
use Rattle.reuse_shown.specs.declared.shown_name.NameDisplay.{NameDisplay}
use Rattle.reuse_print.specs.Lines.{IsResponseText}
use Rattle.reuse_report.specs.declared.drawn.PlannedChanges.{PlannedChanges}

-- the diff of what a path holds in the one tree and in the other
abbrev pub IsPathDiff : Files → Files → List ℕ → List ℕ → Type 0
IsPathDiff before after path text = IsDiff path (get before path) (get after path) text

-- the diffs of what the paths of the changes hold in the one tree and in the other, one behind the other
abbrev pub AreDiffs : Files → Files → List Change → List ℕ → Type 0
AreDiffs before after changes text = AreJoined (λ change. IsPathDiff before after (path_of change)) changes text

-- gone through this way, changes of small files lead from the one tree to the other
pub record AreSmallSteps (direction : Direction) (changes : List Change) (before after : Files) : Type 0 where
  pub small : All IsSmall changes
  pub leads : LeadsBy direction changes before after

-- what is previewed leads from the one tree to the other
abbrev pub WouldLead : PlannedChanges → Files → Files → Type 0
WouldLead planned before after = AreSmallSteps planned.direction planned.changes before after

-- ---- the two trees

-- the diff of two trees: of each path at which they differ, in byte order, what it holds in the one and in the other
abbrev pub IsTreeDiff : Files → Files → List ℕ → Type 0
IsTreeDiff before after text = AreJoined (IsPathDiff before after) (changed_paths before after) text

-- a dry run's lines, and behind them the diff of two trees
pub record IsDrawnText (names : NameDisplay) (before after : Files) (text : List ℕ) : Type 0 where
  pub path_outcomes : List PathOutcome
  pub lines : List ℕ
  pub diff : List ℕ
  pub printed : IsResponseText names (Preview path_outcomes) lines
  pub drawn : IsTreeDiff before after diff
  pub whole : text ≡ lines ++ diff

-- ---- for private clauses

-- what is previewed leads from the one tree to the other, by changes of the paths at which they differ
pub record LeadsAsPreviewed (planned : PlannedChanges) (before after : Files) : Type 0 where
  pub leads : WouldLead planned before after
  pub paths : changed_paths before after ≡ paths_of planned.changes

-- the change that is made where a change is gone through this way
abbrev pub gone : Direction → Change → Change
gone go.Forward change = change
gone go.Backward change = inverse_of change

-- the range lies within the file, and neither that nor the new bytes are too long
pub record IsRangeWithin (file : List ℕ) (at : ℕ) (old new : List ℕ) : Type 0 where
  pub within : at + length old ≤ length file
  pub small : length file ≤ LONGEST_FILE
  pub new_small : length new ≤ LONGEST_FILE
