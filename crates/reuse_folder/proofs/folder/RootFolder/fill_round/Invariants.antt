use Rattle.std.proofs.Common.{◌≡◌, false, length}
use Rattle.reuse_system.specs.NameChanges.{OnlyChanges}
use Rattle.reuse_system.specs.SystemLaws.{IsAlikeUnless}
use Rattle.reuse_system.specs.declared.syncs.Syncs.TheVariants.{Kept}
use Rattle.reuse_disk.specs.Noted.{StayNoted}
use Rattle.reuse_folder.specs.Barriers.{AreNotedAbove}
use Rattle.reuse_folder.specs.Disk.{disk_of}
use Rattle.reuse_folder.specs.NewFileFolder.{KeepsTree}
use Rattle.reuse_folder.specs.Rounds.{AreApart, AreTempFile, HavePlaces, IsNumbered}
use Rattle.reuse_folder.specs.Seen.{AreKnown, IsNewFile}
use Rattle.reuse_folder.proofs.folder.RootFolder.fill_round.Given as goal

-- so far a new file stands aside for each of the writes before this one, of each is known what was seen, and the folder
-- above it is noted
abbrev pub invariant-loop-write : goal.invariant-loop-write
invariant-loop-write g l =
    let s = g.S.System in
    let first = l.fn.self.system in
    let now = l.self.system in
    let new_files = l.fn.round.new_file.folder.identity in
    let temp_files = l.round.temp_files.items in
    record {
      folder : l.round.new_file.folder ≡ l.fn.round.new_file.folder;
      count : length temp_files ≡ l.write-index;
      places : HavePlaces new_files temp_files;
      temp_file : AreTempFile new_files false (s.holds now) 0 (length temp_files) l.writes temp_files;
      apart : AreApart temp_files;
      alike : IsAlikeUnless (IsNumbered new_files (length temp_files)) (s.holds first) (s.holds now);
      syncs : l.self.unsynced.syncs ≡ l.fn.self.unsynced.syncs;
      stay_noted : StayNoted l.fn.self.unsynced l.self.unsynced;
      above : l.fn.self.unsynced.syncs ≡ Kept → AreNotedAbove l.self.unsynced l.writes (length temp_files);
      earlier : s.honest now → s.honest first;
      tree : s.honest now → KeepsTree new_files (disk_of s first) (disk_of s now);
      changes : OnlyChanges IsNewFile (s.changes first) (s.changes now);
      known : AreKnown l.fn.seen.reads.items l.writes temp_files;
      reads : l.seen.reads ≡ l.fn.seen.reads;
    }
