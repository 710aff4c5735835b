-- What is done at a path and at places, by what is asked of each file, for private clauses.
use Rattle.std.specs.Prelude.{ℕ, Bool, List}
use Rattle.reuse_change.specs.Files.{Files}
use Rattle.reuse_edit.specs.AnnotationPlan.{path_by}
use Rattle.reuse_edit.specs.AmendmentPlan.{own_of}
use Rattle.reuse_edit.specs.AtPath.{amendment_at}
use Rattle.reuse_plan.specs.Outcome.{at_places}
use Rattle.reuse_edit.specs.PathEdits.{PathEdit}
use Rattle.reuse_command.specs.Covered.{is_covered}
use Rattle.reuse_plan.specs.Selected.{is_chosen, paths_for}
use Rattle.reuse_edit.specs.Tables.{is_amendable}
use Rattle.reuse_plan.specs.declared.file_task.FileTask.{FileTask}
use Rattle.reuse_plan.specs.declared.file_task.FileTask.TheVariants.{Annotation, Amendment}
use Rattle.reuse_command.specs.declared.command.Place.{Place}
use Rattle.reuse_command.specs.declared.command.Scope.{Scope}

-- which files are gone through
abbrev pub scope_of : FileTask → Scope
scope_of (Annotation asked) = asked.scope.now
scope_of (Amendment asked) = asked.scope.now

-- on which paths it works
abbrev pub works_on : FileTask → List ℕ → Bool
works_on (Annotation asked) path = is_covered path
works_on (Amendment asked) path = is_amendable path

-- which files are chosen beneath folders
abbrev pub chooses : FileTask → List ℕ → Bool
chooses asked path = is_chosen (works_on asked) (scope_of asked) path

-- the paths that are gone through
abbrev pub paths_of : FileTask → List Place → Files → List (List ℕ)
paths_of asked places tree = paths_for (works_on asked) (scope_of asked) places tree

-- what is done at a path
abbrev pub at_by : FileTask → Files → List ℕ → PathEdit
at_by (Annotation asked) tree path = path_by asked tree path
at_by (Amendment asked) tree path = amendment_at asked.amendment.now asked.scope.now (own_of asked) tree path

-- at places
abbrev pub at_places_by : FileTask → Files → List Place → List PathEdit
at_places_by asked tree places = at_places (at_by asked tree) (scope_of asked) places (paths_of asked places tree)
