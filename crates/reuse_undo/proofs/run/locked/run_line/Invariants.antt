use Rattle.reuse_undo.proofs.run.locked.run_line.Given as goal

abbrev pub ghost-tools_for : goal.ghost-tools_for
ghost-tools_for g a = g.start
