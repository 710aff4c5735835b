use Rattle.std.proofs.Common.{[]}
use Rattle.reuse_lock.proofs.LockedFolders.new.Given as goal

abbrev pub ghost-new : goal.ghost-new
ghost-new a = record { marker = record {}; calls = [] }
