use Rattle.reuse_store.proofs.BatchReading.{HasRead}
use Rattle.reuse_store.proofs.apply_changes.read_batch.Given as goal

-- the changes so far are read
abbrev pub invariant-loop-change : goal.invariant-loop-change
invariant-loop-change g l = HasRead g.S.Store l.changes l.fn.store l.store l.batch.items l.change-index
