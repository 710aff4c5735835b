-- The rest of a path is shorter.
use Rattle.std.proofs.Common.{length}
use Rattle.reuse_system.proofs.ignored.+is_foreign.Given as goal

abbrev pub decreases-is_foreign : goal.decreases-is_foreign
decreases-is_foreign l = length l.path.now
