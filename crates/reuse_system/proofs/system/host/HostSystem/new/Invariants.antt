use Rattle.reuse_system.proofs.system.host.HostSystem.new.Given as goal

abbrev pub ghost-new : goal.ghost-new
ghost-new g a = g.start
