-- For private clauses: what is known of a file's change once the file was read.
use Rattle.std.specs.Prelude.{◌≡◌, ℕ, List, length, Result, Ok, Err, nat_lt, if◌then◌else◌}
use Rattle.reuse_change.specs.Files.{Files}
use Rattle.reuse_text.specs.declared.TheConstants.{LONGEST_FILE}
use Rattle.reuse_edit.specs.AnnotationPlan.{edit_by_place, path_by_place, place_by}
use Rattle.reuse_edit.specs.PathEdits.{PathEdit}
use Rattle.reuse_edit.specs.PathPlans.{IsPlanOf}
use Rattle.reuse_edit.specs.Answered.{IsRefusalOf}
use Rattle.reuse_edit.specs.declared.annotation.Annotation.{Annotation}
use Rattle.reuse_edit.specs.declared.target.Target.TheVariants as target
use Rattle.reuse_edit.specs.declared.path_plan.Policy.TheVariants.{Stop}
use Rattle.reuse_edit.specs.declared.place.Step.{Step}
use Rattle.reuse_edit.specs.declared.place.Step.TheVariants.{Done, InNeighbour}
use Rattle.reuse_command.specs.declared.reply.Refusal.{Refusal}
use Rattle.reuse_command.specs.declared.reply.Refusal.TheVariants.{TooLong}

-- the bytes of a file, unless they are too many
abbrev pub short_file : List ℕ → List ℕ → Result (List ℕ) Refusal
short_file path bytes = if nat_lt LONGEST_FILE (length bytes) then Err (TooLong path) else Ok bytes

-- what is done at the path, a refusal, or that the neighbour is the place
abbrev pub StepsTo : Annotation → Files → List ℕ → List ℕ → Result Step Refusal → Type 0
StepsTo asked tree path bytes (Ok (Done plan)) =
    IsPlanOf Stop tree (path_by_place asked tree path bytes (place_by asked path bytes)) plan
StepsTo asked tree path bytes (Ok InNeighbour) = place_by asked path bytes ≡ Ok target.InNeighbour
StepsTo asked tree path bytes (Err refusal) =
    IsRefusalOf (edit_by_place asked tree path bytes (place_by asked path bytes)) refusal

-- what is done there, or a refusal
abbrev pub StepsBy : Files → PathEdit → Result Step Refusal → Type 0
StepsBy tree here (Ok (Done plan)) = IsPlanOf Stop tree here plan
StepsBy tree here (Ok InNeighbour) = ⊥
StepsBy tree here (Err refusal) = IsRefusalOf here.edit refusal
