use Rattle.std.proofs.Common.{◌≡◌, length, ◌-◌, ◌≤◌, true, take}
use Rattle.reuse_system.specs.declared.place.Identity.{Identity}
use Rattle.reuse_disk.specs.Noted.{StayNoted}
use Rattle.reuse_disk.specs.Written.{is_kept}
use Rattle.reuse_folder.specs.Batches.{DisksAfter}
use Rattle.reuse_folder.specs.Disk.{disk_of}
use Rattle.reuse_system.specs.declared.syncs.Syncs.TheVariants.{Kept}
use Rattle.reuse_folder.specs.Barriers.{HaveNoted}
use Rattle.reuse_folder.specs.FolderWrites.{IsFolderOf, IsTidy}
use Rattle.reuse_folder.specs.Seen.{LoseNoEdits}
use Rattle.reuse_folder.proofs.folder.RootFolder.write_all.Given as goal

-- the writes so far are some of them, each made as a single one is, no edit was lost by them, and their
-- folders are noted
abbrev pub invariant-loop-made : goal.invariant-loop-made
invariant-loop-made g l =
    let s = g.S.System in
    let now = l.self.system in
    let first = l.fn.self.system in
    record {
      few : l.made ≤ length l.writes;
      reads : l.seen.reads ≡ l.fn.self.reads;
      syncs : l.self.unsynced.syncs ≡ l.fn.self.unsynced.syncs;
      earlier : s.honest now → s.honest first;
      made : s.honest now → (new_files : Identity) → IsFolderOf l.self.new_file new_files
          → IsFolderOf l.fn.self.new_file new_files × DisksAfter new_files (is_kept l.fn.self.unsynced.syncs)
          (take l.made l.writes) (disk_of s first) (disk_of s now)
          × IsTidy new_files (s.holds first) (s.holds now) true;
      noted : l.fn.self.unsynced.syncs ≡ Kept
          → HaveNoted l.self.unsynced l.writes (s.changes first) (s.changes now);
      stays : StayNoted l.fn.self.unsynced l.self.unsynced;
      keeps_edits : LoseNoEdits l.fn.self.reads.items l.writes (s.changes first) (s.changes now);
    }

abbrev pub decreases-loop-made : goal.decreases-loop-made
decreases-loop-made g l = length l.writes - l.made
