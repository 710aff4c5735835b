-- A call of the system that changes regular files or folders, opens or syncs a folder, or reports what stands at a
-- name.
use Rattle.std.specs.Prelude.{ℕ, ◌+◌, Bool, List, [], ◌∷◌, Result}
use Rattle.reuse_store.specs.declared.store.Reading.{Reading}
use Rattle.reuse_system.specs.FileStates.{Place}
use Rattle.reuse_system.specs.declared.fault.FolderFault.{FolderFault}
use Rattle.reuse_system.specs.declared.place.Found.{Found}
use Rattle.reuse_system.specs.declared.place.Identity.{Identity}
use Rattle.reuse_system.specs.declared.system.new_status.NewStatus.{NewStatus}

-- a call, and whether it answered that it was done; of one that gives a file a name, what is known of that file; of one
-- that changes nothing, what it answered
pub data SystemCall : Type 0 where
  MakeCall : (place : Place) (is_done : Bool) → SystemCall
  AppendCall : (number : ℕ) (bytes : List ℕ) (is_done : Bool) → SystemCall
  SyncCall : (number : ℕ) (is_done : Bool) → SystemCall
  RenameCall : (from to : Place) (given : NewStatus) (is_done : Bool) → SystemCall
  LinkCall : (from to : Place) (given : NewStatus) (is_done : Bool) → SystemCall
  RemoveCall : (place : Place) (is_done : Bool) → SystemCall
  LookCall : (place : Place) (answer : Result Found FolderFault) → SystemCall
  ReadCall : (place : Place) (said limit : ℕ) (answer : Result Reading FolderFault) → SystemCall
  RootCall : (opened : Identity) → SystemCall
  OpenCall : (above : Identity) (name : List ℕ) (opened : Identity) → SystemCall
  NoFolderCall : (above : Identity) (name : List ℕ) (found : Found) → SystemCall
  MakeFolderCall : (above : Identity) (name : List ℕ) (is_done : Bool) → SystemCall
  RemoveFolderCall : (place : Place) (is_done : Bool) → SystemCall
  SyncFolderCall : (folder : Identity) (is_done : Bool) → SystemCall

-- how many files were to be made by these calls
abbrev pub made_of : List SystemCall → ℕ
made_of [] = 0
made_of (MakeCall place is_done ∷ calls) = made_of calls + 1
made_of (AppendCall number bytes is_done ∷ calls) = made_of calls
made_of (SyncCall number is_done ∷ calls) = made_of calls
made_of (RenameCall from to given is_done ∷ calls) = made_of calls
made_of (LinkCall from to given is_done ∷ calls) = made_of calls
made_of (RemoveCall place is_done ∷ calls) = made_of calls
made_of (LookCall place answer ∷ calls) = made_of calls
made_of (ReadCall place said limit answer ∷ calls) = made_of calls
made_of (RootCall opened ∷ calls) = made_of calls
made_of (OpenCall above name opened ∷ calls) = made_of calls
made_of (NoFolderCall above name found ∷ calls) = made_of calls
made_of (MakeFolderCall above name is_done ∷ calls) = made_of calls
made_of (RemoveFolderCall place is_done ∷ calls) = made_of calls
made_of (SyncFolderCall folder is_done ∷ calls) = made_of calls
