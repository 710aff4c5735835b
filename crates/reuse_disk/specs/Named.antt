-- A new file that is to get the name of a target.
use Rattle.std.specs.Prelude.{◌≡◌, ◌≢◌, Bool, true, false, Option, None, IfOk, MatchResult, Result}
use Rattle.std.specs.declared.io.ErrorKind.{ErrorKind}
use Rattle.std.specs.declared.io.ErrorKind.TheVariants.{PermissionDenied, Unsupported, TooManyLinks}
use Rattle.reuse_system.specs.FileStates.{Place}
use Rattle.reuse_system.specs.NameChanges.{IsGuarded}
use Rattle.reuse_system.specs.NewFiles.{Due, IsAsDue}
use Rattle.reuse_system.specs.SystemLaws.{IsOneFile, IsRenamed, MayBeRenamed}
use Rattle.reuse_system.specs.TempFiles.{place_of}
use Rattle.reuse_system.specs.declared.fault.FolderFault.{FolderFault}
use Rattle.reuse_system.specs.declared.place.FileStatus.{FileStatus}
use Rattle.reuse_system.specs.declared.system.System.{Ghosts}
use Rattle.reuse_system.specs.declared.system.TempFile.{TempFile}

-- the file system has no links, or this one may not be made
abbrev pub is_without_links : ErrorKind → Bool
is_without_links PermissionDenied = true
is_without_links Unsupported = true
is_without_links TooManyLinks = true
is_without_links kind = false

-- The file at this place has the target's name then, or may have it where that failed. If the name wasn't another one
-- of this file, it has left its old one. No folder differs.
pub record GivesName {S : Type 0} (system : Ghosts S) (old new : S) (from target : Place)
    (answer : Result (Unit {0}) FolderFault) : Type 0 where
  pub renamed : MatchResult answer (λ _. IsRenamed from target (system.holds old) (system.holds new))
      (λ _. MayBeRenamed from target (system.holds old) (system.holds new))
  pub gone : system.honest new → from ≢ target → ¬ (IsOneFile (system.holds old from) (system.holds old target))
      → IfOk answer (λ _. system.holds new from ≡ None)
  pub still : system.folders new ≡ system.folders old
  pub earlier : system.honest new → system.honest old

-- no name changed but the file's own, and the target's if what was seen there stood there directly before
abbrev pub IsNamedAsSeen : {S : Type 0} → Ghosts S → (old new : S) → TempFile → (target : Place)
    → (seen : Option FileStatus) → Type 0
IsNamedAsSeen system old new temp_file target seen =
    (due : Due) → due.seen ≡ seen → IsAsDue due temp_file.status
    → IsGuarded (λ place. place ≡ place_of temp_file) target due (system.changes old) (system.changes new)
    (system.holds old) (system.holds new)
