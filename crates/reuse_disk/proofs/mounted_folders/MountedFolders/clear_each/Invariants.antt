use Rattle.reuse_disk.specs.LeftFiles.{ClearsLeft}
use Rattle.reuse_disk.specs.OpenFolders.{AreOpenedIf}
use Rattle.reuse_disk.specs.ReadsOnly.{NotesOnly}
use Rattle.reuse_disk.proofs.mounted_folders.MountedFolders.clear_each.Given as goal

-- so far nothing differs but new files that were left
abbrev pub invariant-loop-path : goal.invariant-loop-path
invariant-loop-path g l =
    let s = g.S.System in
    (AreOpenedIf (s.honest l.fn.system) (s.folders l.fn.system) l.fn.open_folders
    → ClearsLeft (s.honest l.system) (s.folders l.system) (s.changes l.fn.system) (s.changes l.system)
    (s.holds l.fn.system) (s.holds l.system)) ×
    NotesOnly s l.fn.system l.system l.fn.open_folders l.open_folders l.fn.unsynced l.unsynced ×
    (s.honest l.system → s.honest l.initial.system)
