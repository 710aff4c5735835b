-- What the next barrier goes by: the folders that it is to make durable, and whether a sync has failed.
use Rattle.std.specs.Prelude.{◌≡◌, ◌⊎◌, ℕ, List, true, false, Some}
use Rattle.std.specs.BTreeSet.{contains_text}
use Rattle.reuse_change.specs.Layout.{journal_folder}
use Rattle.reuse_system.specs.declared.fault.IoReason.{IoReason}
use Rattle.reuse_disk.specs.declared.syncs.Unsynced.{Unsynced}

-- the folder at this path is listed, as one that got or lost a name
abbrev pub IsListed : Unsynced → (folder : List ℕ) → Type 0
IsListed unsynced folder = contains_text unsynced.folders folder ≡ true

-- the folder at this path is to be synced: it is listed, or it is the journal's, which no barrier has synced yet
abbrev pub IsNoted : Unsynced → (folder : List ℕ) → Type 0
IsNoted unsynced folder =
    IsListed unsynced folder ⊎ ((unsynced.is_journal_durable ≡ false) × (folder ≡ journal_folder))

-- a folder that is to be synced, or why a sync has failed
pub data Note : Type 0 where
  Folder : (path : List ℕ) → Note
  Failure : (reason : IoReason) → Note

-- this is noted
abbrev pub Has : Unsynced → Note → Type 0
Has unsynced (Folder path) = IsNoted unsynced path
Has unsynced (Failure reason) = unsynced.failed ≡ Some reason

-- what was noted is noted still
abbrev pub StayNoted : (old new : Unsynced) → Type 0
StayNoted old new = (note : Note) → Has old note → Has new note
