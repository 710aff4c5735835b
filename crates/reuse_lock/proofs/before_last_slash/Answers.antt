use Rattle.std.proofs.Common.{Some, None}
use Rattle.reuse_lock.proofs.LockLemmas.{cut_at_last}
use Rattle.reuse_lock.proofs.before_last_slash.Goals as goal

pub returns-in-Some : goal.returns-in-Some
returns-in-Some c = cut_at_last c.args.path.now (Some (c.in-Some.front, c.in-Some._rest)) c.in-Some.ensures.cases

pub returns-in-None : goal.returns-in-None
returns-in-None c = cut_at_last c.args.path.now None c.in-None.ensures.cases
