use Rattle.std.proofs.Common.{subst}
use Rattle.reuse_disk.specs.OpenFolders.{current_of}
use Rattle.reuse_folder.specs.FolderReads.{IsPlaceAt, LiesIn}
use Rattle.reuse_folder.proofs.ReadLemmas.{absent_at, no_file_of}
use Rattle.reuse_folder.proofs.folder.RootFolder.find_file.Goals as goal

pub returns-in-File-clause-found : goal.returns-in-File-clause-found
returns-in-File-clause-found g c honest =
    let folders = g.S.System.folders c.look.new.self.system in
    let held = g.S.System.holds c.look.new.self.system in
    let current = current_of c.look.new.self.open_folders in
    let seen = c.in_ok-status.ensures in (
      subst (LiesIn folders c.args.path.now current) c.in-File.is (seen.lies honest),
      subst (IsPlaceAt folders held c.args.path.now current) c.in-File.is (seen.seen honest),
    )

pub returns-in_ok-note_read-in_default-clause-found : goal.returns-in_ok-note_read-in_default-clause-found
returns-in_ok-note_read-in_default-clause-found g c honest limit =
    let s = g.S.System in
    let system = c.look.new.self.system in
    rw c.note_read-in_default.ensures.system (absent_at (s.folders system) (s.holds system) c.args.path.now limit
    (current_of c.look.new.self.open_folders) c.in_ok-status.field-0
    (no_file_of c.in_ok-status.field-0 c.in_default.not-File)
    (c.in_ok-status.ensures.seen (rw c.note_read-in_default.ensures.system at honest)))
