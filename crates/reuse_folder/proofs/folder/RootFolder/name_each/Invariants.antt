use Rattle.std.proofs.Common.{◌≡◌, ◌≤◌, length, take}
use Rattle.reuse_disk.specs.Written.{is_kept}
use Rattle.reuse_folder.specs.Barriers.{NamesKnown}
use Rattle.reuse_folder.specs.Batches.{DisksAfter}
use Rattle.reuse_folder.specs.Disk.{disk_of}
use Rattle.reuse_change.specs.Layout.{journal_folder}
use Rattle.reuse_system.specs.Folders.{folder_at}
use Rattle.reuse_folder.specs.NewFileFolder.{IsJournal}
use Rattle.reuse_folder.specs.Rounds.{AreApart, AreTempFile, AreGone, HavePlaces}
use Rattle.reuse_folder.proofs.folder.RootFolder.name_each.Given as goal

-- so far the writes before this one are made, the new files behind it still stand aside, no edit is lost, and the
-- folders are noted
abbrev pub invariant-loop-made : goal.invariant-loop-made
invariant-loop-made g l =
    let s = g.S.System in
    let first = l.fn.self.system in
    let now = l.self.system in
    let new_files = l.fn.new_file.folder.identity in
    let is = is_kept l.fn.self.unsynced.syncs in
    record {
      folder : l.new_file.folder ≡ l.fn.new_file.folder;
      few : l.made ≤ length l.temp_files;
      still : s.folders now ≡ s.folders first;
      named : s.honest now → IsJournal (folder_at (s.folders first) journal_folder) new_files
          → length l.temp_files ≤ length l.writes → HavePlaces new_files l.temp_files
          → AreApart l.temp_files
          → AreTempFile new_files is (s.holds first) 0 (length l.temp_files) l.writes l.temp_files
          → DisksAfter new_files is (take l.made l.writes) (disk_of s first) (disk_of s now)
          × AreTempFile new_files is (s.holds now) l.made (length l.temp_files) l.writes l.temp_files
          × AreGone new_files l.made (s.holds first) (s.holds now);
      names : NamesKnown s first now l.fn.self.unsynced l.self.unsynced l.writes l.temp_files;
    }
