-- Calls that change no file and no folder.
use Rattle.std.specs.Prelude.{◌≡◌}
use Rattle.reuse_system.specs.declared.system.System.{Ghosts}
use Rattle.reuse_disk.specs.Noted.{StayNoted}
use Rattle.reuse_disk.specs.OpenFolders.{AreOpenedIf}
use Rattle.reuse_disk.specs.declared.open_folders.OpenFolders.{OpenFolders}
use Rattle.reuse_disk.specs.declared.syncs.Unsynced.{Unsynced}

-- nothing but reading: each name leads to what it led to, and a system that is honest was so before
pub record ReadsOnly {S : Type 0} (system : Ghosts S) (old new : S) : Type 0 where
  pub kept : system.holds new ≡ system.holds old
  pub changes : system.changes new ≡ system.changes old
  pub still : system.folders new ≡ system.folders old
  pub earlier : system.honest new → system.honest old

-- nothing but reading and entering folders: those that are open are what their paths lead to, if they were so before
pub record EntersOnly {S : Type 0} (system : Ghosts S) (old new : S) (before after : OpenFolders) : Type 0 where
  pub reads : ReadsOnly system old new
  pub opened : AreOpenedIf (system.honest old) (system.folders old) before
      → AreOpenedIf (system.honest new) (system.folders new) after

-- folders are entered and noted for the next barrier: none differs, and none is synced
pub record NotesOnly {S : Type 0} (system : Ghosts S) (old new : S) (before after : OpenFolders)
    (unsynced notes : Unsynced) : Type 0 where
  pub still : system.folders new ≡ system.folders old
  pub earlier : system.honest new → system.honest old
  pub opened : AreOpenedIf (system.honest old) (system.folders old) before
      → AreOpenedIf (system.honest new) (system.folders new) after
  pub syncs : notes.syncs ≡ unsynced.syncs
  pub noted : StayNoted unsynced notes
  pub no_sync : system.synced new ≡ system.synced old
