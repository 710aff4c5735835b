-- What a write of one path changes, and what the file is to be that is put there.
use Rattle.std.proofs.Common.{◌≡◌, inl, ℕ, List, [], Option, None, Some, Bool, IfSome, refl, ap}
use Rattle.reuse_system.specs.TempFiles.{IsNewIn, IsNewPlace}
use Rattle.reuse_system.specs.FileStates.{FileState, place_in}
use Rattle.reuse_system.specs.NameChanges.{NameChange, IsGuarded, OnlyChanges}
use Rattle.reuse_system.specs.Names.{IsNameOf}
use Rattle.reuse_system.specs.NewFiles.{Due, IsAsDue}
use Rattle.reuse_system.specs.SystemLaws.{IsAlikeUnless}
use Rattle.reuse_system.specs.declared.owner.Owner.{Owner}
use Rattle.reuse_system.specs.declared.owner.Process.{Process}
use Rattle.reuse_system.specs.declared.place.FileStatus.{FileStatus}
use Rattle.reuse_system.specs.declared.place.Identity.{Identity}
use Rattle.reuse_system.specs.declared.system.new_status.NewStatus.{NewStatus}
use Rattle.reuse_folder.specs.OwnerChanges.{owner_for}
use Rattle.reuse_folder.specs.Seen.{IsSeenAs, IsAsSeen, KeepsOwner, LosesNoEdit}
use Rattle.reuse_folder.specs.declared.folder.seen.Expected.{Expected}
use Rattle.reuse_folder.specs.declared.folder.seen.Expected.TheVariants as expected
use Rattle.reuse_disk.proofs.EditLemmas.{guarded_only, guarded_then, guarded_weaker, only_weaker}
use Rattle.reuse_folder.proofs.FolderLemmas.{some_name}

-- an owner of what was seen
abbrev pub owner_in : Option FileStatus → Owner
owner_in None = record { user = 0; group = 0 }
owner_in (Some seen) = seen.owner

abbrev pub any_due : Process → Option FileStatus → Due
any_due process seen = record { seen = seen; owner = owner_in seen; process = process }

some_due : Process → (one : Expected) → (due : Due) × IsSeenAs one due.seen × KeepsOwner due
some_due process expected.Found = (any_due process None, tt, tt)
some_due process expected.Nothing = (any_due process None, refl, tt)
some_due process (expected.File status) = (any_due process (Some status), refl, refl)

-- whose a file is to be, where one was seen
pub owner_kept : (process : Process) (seen : Option FileStatus) (folder : Owner) (passes_group : Bool) (owner : Owner)
    → owner ≡ owner_for process seen folder passes_group → IfSome seen (λ file. owner ≡ file.owner)
owner_kept process None folder passes_group owner is = tt
owner_kept process (Some seen) folder passes_group owner is = is

-- a file is as it is to be in place of what was seen
pub as_seen : (seen : Option FileStatus) (due : Due) (status : NewStatus) → due.seen ≡ seen → KeepsOwner due
    → IsAsDue due status → IsAsSeen seen status
as_seen seen due status is keeps as_due = record { due = due; is_seen = is; keeps = keeps; as_due = as_due }

-- by changes of the path's own name in this folder, and of names of new files
loses_by : (path name : List ℕ) (one : Expected) (due : Due) (new_files folder : Identity) (a b : List NameChange)
    (old new : FileState) → IsNameOf path name → IsSeenAs one due.seen → KeepsOwner due
    → IsGuarded (IsNewPlace new_files folder) (place_in folder name) due a b old new → LosesNoEdit path one a b old new
loses_by path name one due new_files folder a b old new named is_seen keeps guarded =
    record {
      new_files = new_files;
      folder = folder;
      name = name;
      is_named = named;
      due = due;
      is_seen = is_seen;
      keeps = keeps;
      guarded = guarded;
    }

-- only new files in a folder changed
pub loses_only : (path : List ℕ) (one : Expected) (process : Process) (new_files : Identity)
    (before after : List NameChange) (old new : FileState) → OnlyChanges (IsNewIn new_files) before after
    → IsAlikeUnless (IsNewIn new_files) old new → LosesNoEdit path one before after old new
loses_only path one process new_files before after old new only alike =
    let name = some_name path in
    let due = some_due process one in
    loses_by path name.0 one due.0 new_files new_files before after old new name.1 due.1 due.2
    (guarded_only (IsNewPlace new_files new_files) (place_in new_files name.0) due.0 before after old new
    (only_weaker (IsNewIn new_files) (IsNewPlace new_files new_files) (λ place at. inl at) before after only)
    (λ no. alike (place_in new_files name.0) (λ at. no (inl at))))

-- nothing changed
pub loses_none : (path : List ℕ) (one : Expected) (process : Process) (before after : List NameChange)
    (old new : FileState) → after ≡ before → new ≡ old → LosesNoEdit path one before after old new
loses_none path one process before after old new same kept =
    loses_only path one process (record { device = 0; number = 0 }) before after old new
    (record { changes = []; grown = same; each = tt }) (λ place apart. ap (λ held. held place) kept)

-- the path's own name changed, after new files were cleared
pub loses_put : (path name : List ℕ) (one : Expected) (due : Due) (new_files folder : Identity)
    (a b c : List NameChange) (old mid new : FileState) → IsNameOf path name → IsSeenAs one due.seen → KeepsOwner due
    → OnlyChanges (IsNewIn new_files) a b → IsAlikeUnless (IsNewIn new_files) old mid
    → IsGuarded (IsNewPlace new_files folder) (place_in folder name) due b c mid new → LosesNoEdit path one a c old new
loses_put path name one due new_files folder a b c old mid new named is_seen keeps only alike guarded =
    loses_by path name one due new_files folder a c old new named is_seen keeps
    (guarded_then (IsNewPlace new_files folder) (place_in folder name) due a b c old mid new
    (guarded_only (IsNewPlace new_files folder) (place_in folder name) due a b old mid
    (only_weaker (IsNewIn new_files) (IsNewPlace new_files folder) (λ place at. inl at) a b only)
    (λ no. alike (place_in folder name) (λ at. no (inl at)))) guarded)

-- the path's own name was removed
pub loses_removed : (path name : List ℕ) (one : Expected) (due : Due) (folder : Identity)
    (a c : List NameChange) (old new : FileState) → IsNameOf path name → IsSeenAs one due.seen → KeepsOwner due
    → IsGuarded (λ _. ⊥) (place_in folder name) due a c old new → LosesNoEdit path one a c old new
loses_removed path name one due folder a c old new named is_seen keeps guarded =
    loses_by path name one due folder folder a c old new named is_seen keeps
    (guarded_weaker (λ _. ⊥) (IsNewPlace folder folder) (place_in folder name) due (λ place bad. absurd bad) a c old new
    guarded)
