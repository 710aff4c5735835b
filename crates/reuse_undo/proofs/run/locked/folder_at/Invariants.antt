use Rattle.reuse_undo.proofs.run.locked.folder_at.Given as goal

abbrev pub ghost-at : goal.ghost-at
ghost-at g a = g.start
