use Rattle.std.proofs.Common.{◌≡◌, ◌++◌, map, string_bytes, true}
use Rattle.std.specs.BTreeSet.{contains_text}
use Rattle.std.specs.Map.Iter.{deref}
use Rattle.reuse_disk.specs.Synced.{IsFoundAmong}
use Rattle.reuse_disk.proofs.SyncLemmas.{EachText}
use Rattle.reuse_disk.specs.OpenFolders.{AreOpenedIf}
use Rattle.reuse_disk.specs.ReadsOnly.{EntersOnly}
use Rattle.reuse_disk.proofs.syncs.Unsynced.folders_there.Given as goal

abbrev pub invariant-loop-folder : goal.invariant-loop-folder
invariant-loop-folder g l =
    let s = g.S.System in
    EntersOnly s l.fn.system l.system l.fn.open_folders l.open_folders ×
    (s.synced l.system ≡ s.synced l.fn.system) ×
    (l.fn.self.folders.keys ≡ map deref l.yielded ++ l.folder-iterator) ×
    (AreOpenedIf (s.honest l.fn.system) (s.folders l.fn.system) l.fn.open_folders → s.honest l.system
    → EachText (λ key. string_bytes (deref key)) (IsFoundAmong (s.folders l.system) (s.holds l.system)
    (λ path. contains_text l.there path ≡ true)) l.yielded)
