-- What is made of the plans of a walk, for private clauses.
use Rattle.std.specs.Prelude.{ℕ, true, false, not, ◌&&◌, ◌||◌, nat_lt, Bool, List, [], ◌∷◌, length, filter_map, Option}
use Rattle.std.specs.Prelude.{Some, None, if◌then◌else◌}
use Rattle.reuse_change.specs.declared.layout.TheConstants.{LARGEST_ENTRY, MOST_CHANGES}
use Rattle.reuse_change.specs.Change.{path_of}
use Rattle.reuse_change.specs.Entry.{entry_size}
use Rattle.reuse_change.specs.declared.change.Change.{Change}
use Rattle.reuse_command.specs.declared.command.Command.{Command}
use Rattle.reuse_command.specs.declared.command.Command.TheVariants.{Amend}
use Rattle.reuse_command.specs.declared.path_outcome.PathOutcome.{PathOutcome}
use Rattle.reuse_command.specs.declared.path_outcome.PathOutcome.TheVariants as path_outcome
use Rattle.reuse_edit.specs.declared.path_plan.PathPlan.{PathPlan}
use Rattle.reuse_edit.specs.declared.path_plan.PathPlan.TheVariants as plan
use Rattle.reuse_command.specs.declared.reply.Refusal.TheVariants.{TooMany}

-- ---- what is made of plans

-- of a path that is amended so, and left
abbrev pub path_outcome_left : List ℕ → Option Change → PathOutcome
path_outcome_left path None = path_outcome.Unchanged path
path_outcome_left path (Some change) = path_outcome.Changes (path_of change) None

abbrev pub path_outcome_planned : PathPlan → PathOutcome
path_outcome_planned (plan.Change change harm) = path_outcome.Changes (path_of change) harm
path_outcome_planned (plan.Unchanged path) = path_outcome.Unchanged path
path_outcome_planned (plan.Left path change) = path_outcome_left path change
path_outcome_planned (plan.Skipped path) = path_outcome.Skipped path
path_outcome_planned (plan.Refused refusal) = path_outcome.Refused refusal

-- of the plans, those that leave their path
abbrev pub left_planned : PathPlan → Option (List ℕ)
left_planned (plan.Left path change) = Some path
left_planned other = None

-- of the plans of a command
abbrev pub left_planned_by : Command → List PathPlan → List (List ℕ)
left_planned_by (Amend places amendment scope) plans = filter_map left_planned plans
left_planned_by command plans = []

abbrev pub change_planned : PathPlan → Option Change
change_planned (plan.Change change harm) = Some change
change_planned (plan.Left path change) = change
change_planned other = None

abbrev pub changes_planned : List PathPlan → List Change
changes_planned plans = filter_map change_planned plans

abbrev pub is_refusal : PathPlan → Bool
is_refusal (plan.Refused refusal) = true
is_refusal other = false

-- more changes than an entry holds
abbrev pub are_too_many : List Change → Bool
are_too_many changes = nat_lt MOST_CHANGES (length changes) || nat_lt LARGEST_ENTRY (entry_size changes)

-- where nothing is refused, that the changes are too many together
abbrev pub limit_planned : Bool → List Change → List PathOutcome
limit_planned is_refused changes =
    if not is_refused && are_too_many changes then path_outcome.Refused TooMany ∷ [] else []
