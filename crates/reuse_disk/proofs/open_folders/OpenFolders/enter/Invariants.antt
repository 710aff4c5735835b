use Rattle.std.proofs.Common.{◌≡◌, length}
use denote.Text.{Utf8}
use denote.Shadow.{shadow}
use Rattle.reuse_disk.specs.OpenFolders.{current_of, AreOpenedIf, IsOnWay}
use Rattle.reuse_disk.specs.ReadsOnly.{EntersOnly}
use Rattle.reuse_disk.proofs.open_folders.OpenFolders.enter.Given as goal

-- the rest leads from the folder that was entered last to where the path leads
abbrev pub invariant-loop-name : goal.invariant-loop-name
invariant-loop-name g l =
    let s = g.S.System in
    shadow (Utf8 l.rest) ×
    EntersOnly s l.fn.system l.system l.fn.self l.self ×
    (AreOpenedIf (s.honest l.fn.system) (s.folders l.fn.system) l.fn.self → s.honest l.system
    → IsOnWay (s.folders l.system) (s.holds l.system) (current_of l.self) l.rest l.fn.folder) ×
    (s.synced l.system ≡ s.synced l.fn.system)

abbrev pub decreases-loop-name : goal.decreases-loop-name
decreases-loop-name g l = length l.rest
