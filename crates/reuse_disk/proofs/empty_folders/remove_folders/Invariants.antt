use Rattle.std.proofs.Common.{◌≡◌}
use Rattle.reuse_disk.specs.KeptPaths.{KeepsPaths}
use Rattle.reuse_disk.specs.OpenFolders.{AreOpenedIf}
use Rattle.reuse_disk.proofs.empty_folders.remove_folders.Given as goal

abbrev pub invariant-loop-folder : goal.invariant-loop-folder
invariant-loop-folder g l =
    let s = g.S.System in
    let now = l.system in
    let first = l.fn.system in
    (goal.iterator-loop-folder g).can_next l.folder-iterator ×
    (goal.iterator-loop-folder g).is_finite l.folder-iterator ×
    (s.holds now ≡ s.holds first) ×
    (s.honest now → s.honest first) ×
    (AreOpenedIf (s.honest first) (s.folders first) l.fn.open_folders → AreOpenedIf (s.honest now)
    (s.folders now) l.open_folders) ×
    (s.changes now ≡ s.changes first) ×
    (AreOpenedIf (s.honest first) (s.folders first) l.fn.open_folders → s.honest now
    → KeepsPaths (s.holds now) (s.folders first) (s.folders now))
