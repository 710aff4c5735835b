use Rattle.reuse_disk.specs.OpenFolders.{current_of}
use Rattle.reuse_folder.proofs.ReadLemmas.{read_after}
use Rattle.reuse_folder.proofs.folder.RootFolder.read_again.Goals as goal

pub returns-in-Some-2-clause-read : goal.returns-in-Some-2-clause-read
returns-in-Some-2-clause-read g c honest =
    let s = g.S.System in
    let first = c.find_file.new.self in
    let second = c.read_anew.new.self.system in
    let found = rw c.in-Some.is at (c.in_ok-status.ensures.found (c.read_anew.ensures.reads.earlier honest)) in
    read_after (s.folders second) (s.folders first.system) (s.holds second) (s.holds first.system) c.args.path.now
    c.args.limit (current_of first.open_folders) c.in_ok-reading-in-Some.field-0 c.in-Some-2.reading
    c.read_anew.ensures.reads.still c.read_anew.ensures.reads.kept c.in-Some-2.is found.0
    (c.in_ok-reading-in-Some.ensures.read honest found.1)
