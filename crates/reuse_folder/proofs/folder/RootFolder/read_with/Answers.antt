use Rattle.reuse_folder.proofs.folder.RootFolder.read_with.Goals as goal

pub returns-in-Absent-TooLong-clause-within : goal.returns-in-Absent-TooLong-clause-within
returns-in-Absent-TooLong-clause-within g c = c.foreign_or.ensures.within c.args.limit c.in_ok-reading.ensures.within
