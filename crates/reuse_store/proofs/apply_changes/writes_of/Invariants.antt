use Rattle.std.proofs.Common.{take}
use Rattle.std.specs.List.{AllZip}
use Rattle.reuse_store.specs.Batch.{MakesRead}
use Rattle.reuse_store.proofs.apply_changes.writes_of.Given as goal

-- the writes so far make the changes so far
abbrev pub invariant-loop-read : goal.invariant-loop-read
invariant-loop-read l = AllZip (MakesRead l.direction) (take l.read-index l.batch) l.writes.items
