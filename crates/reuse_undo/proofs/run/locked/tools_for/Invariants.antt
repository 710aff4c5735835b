use Rattle.reuse_undo.proofs.run.locked.tools_for.Given as goal

abbrev pub ghost-folder_at : goal.ghost-folder_at
ghost-folder_at g a = g.start
