use Rattle.std.proofs.Common.{take, Ok}
use Rattle.reuse_store.specs.Asked.{AreWrites}
use Rattle.reuse_store.proofs.store.Store.write_all.Given as goal

-- the writes so far succeeded
abbrev pub invariant-loop-write : goal.invariant-loop-write
invariant-loop-write g l = AreWrites g.Self.Store (take l.write-index l.writes) l.fn.self l.self (Ok tt)
