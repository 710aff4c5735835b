use Rattle.std.proofs.Common.{rules}
use Rattle.reuse_system.specs.TempFiles.{opened_at}
use Rattle.reuse_system.specs.Names.{IsNameOf}
use Rattle.reuse_disk.specs.OpenFolders.{current_of}
use Rattle.reuse_folder.proofs.ReadLemmas.{read_in, read_opened}
use Rattle.reuse_folder.proofs.folder.RootFolder.read_anew.Goals as goal

pub returns-clause-read : goal.returns-clause-read
returns-clause-read g c honest at =
    let s = g.S.System in
    let folder = c.in_ok-folder.folder.now.identity in
    let name = c.folder_and_name.result.1.now in
    let named : IsNameOf c.args.path.now name = search rules in
    let first = c.args.self.now.system in
    let second = c.read.new.self in
    let old = s.holds first in
    let new = s.holds second in
    let was = c.in_ok-reading.ensures.read (rw c.remember.ensures.system at honest) in
    let opened = rw c.in-Some.is at c.in_ok-file.ensures in
    read_in (current_of c.args.self.now.open_folders) folder c.args.path.now name c.args.limit old c.args.status
    c.in_ok-reading.reading c.in_ok-folder.ensures named at
    (read_opened folder name (opened_at c.in-Some.file) c.args.status.len c.args.limit old new c.in_ok-reading.reading
    opened c.in_ok-reading.ensures.kept was)
