-- What a call would do, path by path: reported on the whole tree, before anything changes.
use Rattle.std.specs.Prelude.{◌≡◌, ℕ, Bool, List, [], ◌∷◌, ◌++◌, map, filter_map, Option, Some, None, Result, Ok, Err}
use Rattle.std.specs.Prelude.{if◌then◌else◌}
use Rattle.reuse_header.specs.declared.harm.Harm.{Harm}
use Rattle.reuse_change.specs.Files.{Files}
use Rattle.reuse_change.specs.Change.{path_of}
use Rattle.reuse_change.specs.declared.change.Change.{Change}
use Rattle.reuse_change.specs.Entry.{CanBeMade}
use Rattle.reuse_edit.specs.Edit.{Edit}
use Rattle.reuse_plan.specs.Outcome.{amendments_by, path_edits_of, edits_of, is_too_many}
use Rattle.reuse_edit.specs.PathEdits.{PathEdit}
use Rattle.reuse_plan.specs.TreeStyles.{styles_in}
use Rattle.reuse_command.specs.declared.command.Command.TheVariants.{Amend}
use Rattle.reuse_command.specs.declared.command.Command.{Command}
use Rattle.reuse_change.specs.declared.direction.Direction.{Direction}
use Rattle.reuse_command.specs.declared.path_outcome.PathOutcome.{PathOutcome}
use Rattle.reuse_command.specs.declared.path_outcome.PathOutcome.TheVariants.{Changes, Unchanged, Skipped, Refused}
use Rattle.reuse_command.specs.declared.path_outcome.PathOutcome.TheVariants.{Left}
use Rattle.reuse_command.specs.declared.reply.Refusal.{Refusal}
use Rattle.reuse_command.specs.declared.reply.Refusal.TheVariants.{Moved, TooMany}

-- ---- one path

-- by what is done at the path: the place that is written changes, with what a new header could break there; where
-- nothing is, the file is skipped or needs no change
abbrev pub path_outcome_by : List ℕ → Bool → Option Harm → Result (Option Edit) Refusal → PathOutcome
path_outcome_by path skipped harm (Err refusal) = Refused refusal
path_outcome_by path skipped harm (Ok (Some edit)) = Changes edit.path harm
path_outcome_by path skipped harm (Ok None) = if skipped then Skipped path else Unchanged path

abbrev pub path_outcome_of : PathEdit → PathOutcome
path_outcome_of here = path_outcome_by here.path here.skipped here.harm here.edit

-- the path, where amend leaves it and what it does there isn't refused
abbrev pub left_by : List ℕ → Bool → Result (Option Edit) Refusal → Option (List ℕ)
left_by path left (Err refusal) = None
left_by path left (Ok edit) = if left then Some path else None

abbrev pub left_at : PathEdit → Option (List ℕ)
left_at here = left_by here.path here.left here.edit

-- ---- commands

-- the paths that an amendment leaves, in their order; no other command leaves any
unfoldable pub left_paths : Command → Files → List (List ℕ)
left_paths (Amend places amendment scope) tree =
    filter_map left_at (amendments_by places amendment scope tree (styles_in tree))
left_paths command tree = []

-- where nothing else is refused, that the edits are too many together
abbrev pub limit_path_outcomes : Result (List Edit) Refusal → List PathOutcome
limit_path_outcomes (Err refusal) = []
limit_path_outcomes (Ok edits) = if is_too_many edits then Refused TooMany ∷ [] else []

-- what a run of a command would do, path by path, and which paths it would leave
unfoldable pub path_outcomes_of : Command → Files → List PathOutcome
path_outcomes_of command tree =
    map path_outcome_of (path_edits_of command tree) ++ limit_path_outcomes (edits_of command tree)
    ++ map Left (left_paths command tree)

-- the first refusal among path outcomes
abbrev pub first_refusal : List PathOutcome → Option Refusal
first_refusal [] = None
first_refusal (Refused refusal ∷ path_outcomes) = Some refusal
first_refusal (path_outcome ∷ path_outcomes) = first_refusal path_outcomes

-- ---- an undo or a redo

-- a path changes, and no header is new in its file
abbrev pub changes_plainly : List ℕ → PathOutcome
changes_plainly path = Changes path None

-- gone through this way, the change can be made on the tree and its path changes, or it can't and is refused
abbrev pub IsPathOutcomeOf : Direction → Files → Change → PathOutcome → Type 0
IsPathOutcomeOf direction tree change (Changes path None) = (path ≡ path_of change) × CanBeMade direction tree change
IsPathOutcomeOf direction tree change (Refused (Moved path)) =
    (path ≡ path_of change) × ¬ (CanBeMade direction tree change)
IsPathOutcomeOf direction tree change path_outcome = ⊥

-- one path outcome for each change, in their order
abbrev pub ArePathOutcomesOf : Direction → Files → List Change → List PathOutcome → Type 0
ArePathOutcomesOf direction tree [] [] = Unit {0}
ArePathOutcomesOf direction tree (change ∷ changes) (path_outcome ∷ path_outcomes) =
    IsPathOutcomeOf direction tree change path_outcome × ArePathOutcomesOf direction tree changes path_outcomes
ArePathOutcomesOf direction tree [] (path_outcome ∷ path_outcomes) = ⊥
ArePathOutcomesOf direction tree (change ∷ changes) [] = ⊥
