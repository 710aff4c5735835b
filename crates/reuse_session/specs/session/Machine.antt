-- The reference model (it keeps whole copies of the trees before and after each step).
use Rattle.std.specs.Prelude.{◌≡◌, ℕ, ◌+◌, Bool, true, false, List, [], ◌∷◌, ◌++◌, length, map, reverse, Result, Ok}
use Rattle.std.specs.Prelude.{Err, if◌then◌else◌}
use Rattle.reuse_change.specs.Files.{Files, AreFiles}
use Rattle.reuse_change.specs.Entry.{IsEntry, LeadsAll}
use Rattle.reuse_command.specs.Command.{name_of}
use Rattle.reuse_plan.specs.PathOutcomes.{changes_plainly, left_paths, path_outcomes_of}
use Rattle.reuse_change.specs.Tree.{changed_paths}
use Rattle.reuse_change.specs.declared.change.Change.{Change}
use Rattle.reuse_plan.specs.Outcome.{outcome_of}
use Rattle.reuse_command.specs.declared.command.Command.{Command}
use Rattle.reuse_change.specs.declared.command_name.CommandName.{CommandName}
use Rattle.reuse_command.specs.declared.path_outcome.PathOutcome.{PathOutcome}
use Rattle.reuse_command.specs.declared.reply.Row.{Row}
use Rattle.reuse_command.specs.declared.reply.Response.{Response}
use Rattle.reuse_command.specs.declared.reply.Response.TheVariants.{Changed, NothingChanged, Undone, Redone}
use Rattle.reuse_command.specs.declared.reply.Refusal.{Refusal}
use Rattle.reuse_command.specs.declared.reply.Refusal.TheVariants.{JournalFull, NothingToUndo, NothingToRedo}
use Rattle.reuse_journal.specs.Labels.{Label, is_full, row_of}

-- a step that is kept: its label, and copies of the tree before it and of that after it
pub record Kept : Type 0 where
  pub label : Label
  pub before : Files
  pub after : Files

-- the tree now, the steps done (the newest first), those undone (the next to be redone first), and how many numbers are
-- used
pub record Snapshots : Type 0 where
  pub tree : Files
  pub past : List Kept
  pub future : List Kept
  pub used : ℕ

-- the changes are an entry's, and lead from the one tree to the other
pub record Connects (changes : List Change) (before after : Files) : Type 0 where
  pub good : IsEntry changes
  pub leads : LeadsAll changes before after
  pub are_files : AreFiles before × AreFiles after

-- each step that is done led to the tree before the next one, and the last to the tree
abbrev pub LedUpTo : Files → List Kept → Type 0
LedUpTo tree [] = Unit {0}
LedUpTo tree (kept ∷ past) = (kept.after ≡ tree) × LedUpTo kept.before past

-- the steps that are undone lead on from the tree so
abbrev pub LeadOn : Files → List Kept → Type 0
LeadOn tree [] = Unit {0}
LeadOn tree (kept ∷ future) = (kept.before ≡ tree) × LeadOn kept.after future

-- no step is missing between two that are kept, nor beside the tree
pub record IsUnbroken (state : Snapshots) : Type 0 where
  pub past : LedUpTo state.tree state.past
  pub future : LeadOn state.tree state.future

-- an answer, and what is kept then
abbrev pub Step : Type 0
Step = Result Response Refusal × Snapshots

-- the command gave this tree, which differs at these paths, and leaves those
abbrev pub taken : Snapshots → ℕ → CommandName → (left : List (List ℕ)) → Files → List (List ℕ) → Step
taken s when command left after [] = (Ok (NothingChanged left), s)
taken s when command left after (path ∷ paths) = (
  Ok (Changed (path ∷ paths) left),
  record {
    tree = after;
    past = record {
      label = record { number = s.used + 1; when = when; command = command };
      before = s.tree;
      after = after;
    } ∷ s.past;
    future = [];
    used = s.used + 1;
  },
)

-- a run, given what its command leaves and gives on the tree
abbrev pub ran : Snapshots → ℕ → CommandName → (left : List (List ℕ)) → Result Files Refusal → Step
ran s when command left (Err refusal) = (Err refusal, s)
ran s when command left (Ok after) = taken s when command left after (changed_paths s.tree after)

-- a run of a command
abbrev pub ran_by : Snapshots → Command → ℕ → Step
ran_by s command when = if is_full (length s.past) s.used then (Err JournalFull, s)
    else ran s when (name_of command) (left_paths command s.tree) (outcome_of command s.tree)

-- an undo of the last step, if that led to the tree: it goes back to the copy of the tree before
abbrev pub undone : Snapshots → List Kept → Step
undone s [] = (Err NothingToUndo, s)
undone s (kept ∷ past) = (
  Ok (Undone (changed_paths kept.before s.tree)),
  record {
    tree = kept.before;
    past = past;
    future = record { label = kept.label; before = kept.before; after = s.tree } ∷ s.future;
    used = s.used;
  },
)

-- a redo of the next step, if that leads on from the tree: it goes on to the copy of the tree after
abbrev pub redone : Snapshots → List Kept → Step
redone s [] = (Err NothingToRedo, s)
redone s (kept ∷ future) = (
  Ok (Redone (changed_paths s.tree kept.after)),
  record {
    tree = kept.after;
    past = record { label = kept.label; before = s.tree; after = kept.after } ∷ s.past;
    future = future;
    used = s.used;
  },
)

-- the row of a step, with the number of paths at which its two trees differ
abbrev pub kept_row : Bool → Kept → Row
kept_row is_done kept = row_of kept.label (length (changed_paths kept.before kept.after)) is_done

-- the rows of the steps done, the oldest first, and then of those undone, the next to be redone first
abbrev pub rows_of : Snapshots → List Row
rows_of s = map (kept_row true) (reverse s.past) ++ map (kept_row false) s.future

-- what a run of the command would do
abbrev pub run_path_outcomes : Snapshots → Command → Result (List PathOutcome) Refusal
run_path_outcomes s command =
    if is_full (length s.past) s.used then Err JournalFull else Ok (path_outcomes_of command s.tree)

-- what such an undo would do: each path at which the tree before differs would change
abbrev pub undo_path_outcomes : Files → List Kept → Result (List PathOutcome) Refusal
undo_path_outcomes tree [] = Err NothingToUndo
undo_path_outcomes tree (kept ∷ past) = Ok (map changes_plainly (changed_paths kept.before tree))

-- what such a redo would do
abbrev pub redo_path_outcomes : Files → List Kept → Result (List PathOutcome) Refusal
redo_path_outcomes tree [] = Err NothingToRedo
redo_path_outcomes tree (kept ∷ future) = Ok (map changes_plainly (changed_paths tree kept.after))
