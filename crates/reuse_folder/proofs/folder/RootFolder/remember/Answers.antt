use Rattle.std.proofs.Common.{◌≡◌, refl}
use Rattle.reuse_folder.proofs.folder.RootFolder.remember.Goals as goal
use Rattle.reuse_folder.proofs.folder.RootFolder.remember.Goals.{in-Found, in_default}

pub returns-clause-once_more : goal.returns-clause-once_more
returns-clause-once_more g c =
    let same : c.match-reading.self.reads ≡ c.args.self.now.reads =
    elim c.match-reading.branch [ in-Found w ↦ rw w.self-is refl | in_default w ↦ rw w.self-is refl ] in
    rw same at c.note_read.ensures.once_more
