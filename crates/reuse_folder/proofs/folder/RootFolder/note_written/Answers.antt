use Rattle.reuse_folder.proofs.folder.RootFolder.note_written.Goals as goal

pub invariant_of-self : goal.invariant_of-self
invariant_of-self g c = record { opened = c.args.self.now.opened; home = c.requires }
