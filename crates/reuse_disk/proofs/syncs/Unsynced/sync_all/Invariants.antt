use Rattle.std.proofs.Common.{◌≡◌, ◌++◌, map, string_bytes}
use Rattle.std.specs.Map.Iter.{deref}
use Rattle.reuse_disk.proofs.SyncLemmas.{EachText, IsGrownBy, IsSyncedThere}
use Rattle.reuse_disk.specs.Noted.{StayNoted}
use Rattle.reuse_disk.specs.OpenFolders.{AreOpenedIf}
use Rattle.reuse_disk.specs.ReadsOnly.{EntersOnly}
use Rattle.reuse_disk.proofs.syncs.Unsynced.sync_all.Given as goal

abbrev pub invariant-loop-folder : goal.invariant-loop-folder
invariant-loop-folder g l =
    let s = g.S.System in
    (l.self.failed ≡ l.fn.self.failed) ×
    EntersOnly s l.fn.system l.system l.fn.open_folders l.open_folders ×
    IsGrownBy (s.synced l.fn.system) (s.synced l.system) ×
    (l.initial.folder-iterator ≡ map deref l.yielded ++ l.folder-iterator) ×
    (AreOpenedIf (s.honest l.fn.system) (s.folders l.fn.system) l.fn.open_folders → s.honest l.system
    → EachText (λ key. string_bytes (deref key)) (IsSyncedThere (s.folders l.system) (s.synced l.fn.system)
    (s.synced l.system)) l.yielded) ×
    (s.honest l.system → s.honest l.initial.system) ×
    StayNoted l.fn.self l.self ×
    (l.self.syncs ≡ l.fn.self.syncs)
