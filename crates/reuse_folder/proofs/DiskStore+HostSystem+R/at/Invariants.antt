use Rattle.reuse_folder.proofs.DiskStore+HostSystem+R.at.Given as goal

abbrev pub ghost-new : goal.ghost-new
ghost-new g a = g.start
