use Rattle.std.proofs.Common.{◌≡◌}
use Rattle.reuse_system.specs.SystemLaws.{IsAlikeUnless}
use Rattle.reuse_system.specs.TempFiles.{IsNewIn}
use Rattle.reuse_system.specs.NameChanges.{OnlyChanges}
use Rattle.reuse_disk.specs.Written.{LeavesNone}
use Rattle.reuse_disk.proofs.new_file.NewFile.clear.Given as goal

-- so far nothing differs but at names of new files
abbrev pub invariant-loop-name : goal.invariant-loop-name
invariant-loop-name g l =
    let s = g.S.System in
    IsAlikeUnless (IsNewIn l.self.folder.identity) (s.holds l.fn.system) (s.holds l.system) ×
    (s.folders l.system ≡ s.folders l.fn.system) ×
    (s.honest l.system → s.honest l.fn.system) ×
    OnlyChanges (IsNewIn l.self.folder.identity) (s.changes l.fn.system) (s.changes l.system) ×
    LeavesNone (IsNewIn l.self.folder.identity) (s.holds l.fn.system) (s.holds l.system)
