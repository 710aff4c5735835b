-- Which names files were given or lost, what a look directly before reported of each, and what each file was.
use Rattle.std.specs.Prelude.{◌≡◌, ◌≢◌, ◌⊎◌, if◌then◌else◌, List, [], ◌∷◌, ◌++◌, Option, None, Some, IfSome}
use Rattle.std.specs.Str.{bytes_eq}
use Rattle.reuse_system.specs.FileStates.{Place, FileState}
use Rattle.reuse_system.specs.NewFiles.{Due, IsAsDue}
use Rattle.reuse_system.specs.declared.place.FileStatus.{FileStatus}
use Rattle.reuse_system.specs.declared.place.Found.{Found}
use Rattle.reuse_system.specs.declared.place.Found.TheVariants as found
use Rattle.reuse_system.specs.declared.system.new_status.NewStatus.{NewStatus}

-- a look at a place, and what it reported
pub record Look : Type 0 where
  pub place : Place
  pub reported : Found

-- a name that a file was given or lost; what the call directly before reported of it, if that was a look at this name;
-- and what is known of the file that was given it, if one was
pub record NameChange : Type 0 where
  pub place : Place
  pub reported : Option Found
  pub given : Option NewStatus

-- each of the changes is such a one
abbrev pub AreEach : (NameChange → Type 0) → List NameChange → Type 0
AreEach IsOne [] = Unit {0}
AreEach IsOne (change ∷ changes) = IsOne change × AreEach IsOne changes

-- what the last call reported of the place, if it was a look at it
abbrev pub reported_of : Option Look → Place → Option Found
reported_of None place = None
reported_of (Some look) place = if bytes_eq look.place place then Some look.reported else None

-- a file lost this name, behind this last call
abbrev pub change_at : Option Look → Place → NameChange
change_at look place = record { place = place; reported = reported_of look place; given = None }

-- this file was given this name, behind this last call
abbrev pub change_to : Option Look → Place → NewStatus → NameChange
change_to look place status =
    record { place = place; reported = reported_of look place; given = Some status }

-- this file was given a name that nothing had
abbrev pub change_of_free : Place → NewStatus → NameChange
change_of_free place status = record { place = place; reported = Some found.Nothing; given = Some status }

-- what was reported of a name is what was seen there before: the same file with the same bytes, as far as the system
-- reports that, or nothing
abbrev pub IsExpected : Option FileStatus → Option Found → Type 0
IsExpected (Some seen) reported =
    (status : FileStatus) × (reported ≡ Some (found.File status)) × (status.version ≡ seen.version)
IsExpected None reported = reported ≡ Some found.Nothing

-- a change of a place for new files, or of the target, which stood as it was seen directly before; a file that was
-- given its name is as it is to be
abbrev pub IsChangeOf : (IsTempFile : Place → Type 0) (target : Place) (due : Due) → NameChange → Type 0
IsChangeOf IsTempFile target due change =
    IsTempFile change.place
    ⊎ ((change.place ≡ target) × IsExpected due.seen change.reported × IfSome change.given (IsAsDue due))

-- no name changed but such ones
pub record OnlyChanges (IsOne : Place → Type 0) (before after : List NameChange) : Type 0 where
  pub changes : List NameChange
  pub grown : after ≡ changes ++ before
  pub each : AreEach (λ change. IsOne change.place) changes

-- The names that changed are places for new files, and the target if it stood as it was seen directly before. The files
-- that were given its name are as they are to be. If the target isn't among the names, its file is the same before and
-- after.
pub record IsGuarded (IsTempFile : Place → Type 0) (target : Place) (due : Due)
    (before after : List NameChange) (old new : FileState) : Type 0 where
  pub changes : List NameChange
  pub grown : after ≡ changes ++ before
  pub each : AreEach (IsChangeOf IsTempFile target due) changes
  pub same : AreEach (λ change. change.place ≢ target) changes → ¬ (IsTempFile target) → new target ≡ old target
