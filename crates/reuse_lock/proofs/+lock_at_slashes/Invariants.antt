-- What stands before the last slash is shorter.
use Rattle.std.proofs.Common.{length}
use Rattle.reuse_lock.proofs.+lock_at_slashes.Given as goal

abbrev pub decreases-lock_at_slashes : goal.decreases-lock_at_slashes
decreases-lock_at_slashes g l = length l.path.now
