use Rattle.std.proofs.Common.{◌≡◌, length}
use denote.Text.{Utf8}
use denote.Shadow.{shadow}
use Rattle.reuse_system.specs.Folders.{IsGrown}
use Rattle.reuse_disk.specs.KeptPaths.{KeepsPaths}
use Rattle.reuse_disk.specs.Noted.{StayNoted}
use Rattle.reuse_disk.specs.OpenFolders.{AreOpenedIf}
use Rattle.reuse_disk.proofs.open_folders.OpenFolders.make.Given as goal

abbrev pub invariant-loop-name : goal.invariant-loop-name
invariant-loop-name g l =
    let s = g.S.System in
    let now = l.system in
    let first = l.fn.system in
    shadow (Utf8 l.rest) ×
    (l.unsynced.syncs ≡ l.fn.unsynced.syncs) ×
    (IsGrown (s.folders first) (s.folders now)) ×
    (s.holds now ≡ s.holds first) ×
    (s.honest now → s.honest first) ×
    (AreOpenedIf (s.honest first) (s.folders first) l.fn.self → AreOpenedIf (s.honest now)
    (s.folders now) l.self) ×
    (s.changes now ≡ s.changes first) ×
    StayNoted l.fn.unsynced l.unsynced ×
    (s.honest now → KeepsPaths (s.holds now) (s.folders first) (s.folders now))

abbrev pub decreases-loop-name : goal.decreases-loop-name
decreases-loop-name g l = length l.rest
