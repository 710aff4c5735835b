use Rattle.reuse_disk.specs.OpenFolders.{current_of}
use Rattle.reuse_folder.proofs.ReadLemmas.{read_after}
use Rattle.reuse_folder.proofs.folder.RootFolder.read_seen.Goals as goal

pub returns-in-Some-clause-read : goal.returns-in-Some-clause-read
returns-in-Some-clause-read g c honest lies at =
    let s = g.S.System in
    let first = c.args.self.now.system in
    let second = c.read_anew.new.self.system in
    read_after (s.folders second)
    (s.folders first) (s.holds second)
    (s.holds first)
    c.args.path.now c.args.limit (current_of c.args.self.now.open_folders) c.in_ok-reading.field-0 c.in-Some.reading
    c.read_anew.ensures.reads.still c.read_anew.ensures.reads.kept c.in-Some.is lies
    (c.in_ok-reading.ensures.read honest at)
