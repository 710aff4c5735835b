-- What a call counts while it plans: how many of the path outcomes of its command are of files that are skipped, what
-- of its choice of files came to nothing, what the headers could break that it puts into files without one, and how
-- many paths it leaves.
use Rattle.std.specs.Prelude.{◌≡◌, ℕ, Bool, true, false, List, length, filter, filter_map, Option, None, Some, Result}
use Rattle.std.specs.Prelude.{Ok}
use Rattle.reuse_header.specs.declared.harm.Harm.{Harm}
use Rattle.reuse_change.specs.Change.{path_of}
use Rattle.reuse_change.specs.Files.{Files}
use Rattle.reuse_edit.specs.Edit.{Edit}
use Rattle.reuse_plan.specs.Outcome.{path_edits_of}
use Rattle.reuse_edit.specs.PathEdits.{PathEdit}
use Rattle.reuse_plan.specs.PathOutcomes.{left_paths, path_outcomes_of}
use Rattle.reuse_plan.specs.Unused.{AreUnusedBy}
use Rattle.reuse_command.specs.declared.command.Command.{Command}
use Rattle.reuse_plan.specs.declared.counts.Counts.{Counts}
use Rattle.reuse_plan.specs.declared.counts.Harmed.{Harmed}
use Rattle.reuse_command.specs.declared.path_outcome.PathOutcome.{PathOutcome}
use Rattle.reuse_command.specs.declared.path_outcome.PathOutcome.TheVariants.{Skipped}
use Rattle.reuse_command.specs.declared.reply.Refusal.{Refusal}
use Rattle.reuse_edit.specs.declared.path_plan.PathPlan.{PathPlan}
use Rattle.reuse_edit.specs.declared.path_plan.PathPlan.TheVariants as plan

abbrev pub is_skip : PathOutcome → Bool
is_skip (Skipped path) = true
is_skip path_outcome = false

-- how many of the path outcomes are of files that are skipped
abbrev pub skipped_count : List PathOutcome → ℕ
skipped_count path_outcomes = length (filter is_skip path_outcomes)

-- a file with what its header could break
abbrev pub harmed : List ℕ → Harm → Harmed
harmed path harm = record { path = path; harm = harm }

-- where the path changes, and that could break something
abbrev pub harmed_by : Option Harm → Result (Option Edit) Refusal → Option Harmed
harmed_by (Some harm) (Ok (Some edit)) = Some (harmed edit.path harm)
harmed_by harm edit = None

abbrev pub harmed_at : PathEdit → Option Harmed
harmed_at here = harmed_by here.harm here.edit

-- what is counted of a command on a tree
pub record IsCounted (command : Command) (tree : Files) (counts : Counts) : Type 0 where
  pub skipped : counts.skipped ≡ skipped_count (path_outcomes_of command tree)
  pub unused : AreUnusedBy command tree counts.unused
  pub harms : counts.harms.items ≡ filter_map harmed_at (path_edits_of command tree)
  pub left : counts.left ≡ length (left_paths command tree)

-- ---- for private clauses

abbrev pub is_skip_planned : PathPlan → Bool
is_skip_planned (plan.Skipped path) = true
is_skip_planned other = false

-- how many of the plans skip their file
abbrev pub skipped_planned : List PathPlan → ℕ
skipped_planned plans = length (filter is_skip_planned plans)

-- of the plans that change their file, those whose header could break something
abbrev pub harmed_planned : PathPlan → Option Harmed
harmed_planned (plan.Change change (Some harm)) = Some (harmed (path_of change) harm)
harmed_planned other = None
