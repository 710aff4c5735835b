use Rattle.std.proofs.Common.{◌≡◌, ◌≤◌, false, length}
use Rattle.reuse_system.specs.SystemLaws.{IsAlikeUnless}
use Rattle.reuse_system.specs.declared.place.Identity.{Identity}
use Rattle.reuse_disk.specs.Noted.{StayNoted}
use Rattle.reuse_disk.specs.Written.{is_kept}
use Rattle.reuse_folder.specs.Rounds.{AreApart, AreTempFile, IsNumbered}
use Rattle.reuse_folder.proofs.RoundLemmas.{AreSynced}
use Rattle.reuse_folder.proofs.folder.RootFolder.sync_all.Given as goal

-- so far the new files before this one are synced, and only new files differ
abbrev pub invariant-loop-at : goal.invariant-loop-at
invariant-loop-at g l =
    let s = g.S.System in
    let first = l.fn.self.system in
    let now = l.self.system in
    record {
      synced : (new_files : Identity) → length l.temp_files ≤ length l.writes → AreApart l.temp_files
          → AreTempFile new_files false (s.holds first) 0 (length l.temp_files) l.writes l.temp_files
          → AreSynced new_files (is_kept l.fn.self.unsynced.syncs) (s.holds now) l.at l.writes l.temp_files
          × IsAlikeUnless (IsNumbered new_files (length l.temp_files)) (s.holds first) (s.holds now);
      syncs : l.self.unsynced.syncs ≡ l.fn.self.unsynced.syncs;
      stays : StayNoted l.fn.self.unsynced l.self.unsynced;
      still : s.folders now ≡ s.folders first;
      earlier : s.honest now → s.honest first;
      changes : s.changes now ≡ s.changes first;
    }
