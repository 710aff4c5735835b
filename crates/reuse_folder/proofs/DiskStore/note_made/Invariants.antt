use Rattle.std.proofs.Common.{◌≡◌, ◌+◌, take, Ok}
use Rattle.reuse_store.specs.Asked.{AreWrites}
use Rattle.reuse_store.specs.Calls.{mutations_of}
use Rattle.reuse_folder.proofs.NotedWrites.{noted}
use Rattle.reuse_folder.proofs.DiskStore.note_made.Given as goal

-- the writes so far are noted, and the folder stays
abbrev pub invariant-loop-write : goal.invariant-loop-write
invariant-loop-write g l =
    AreWrites (noted (λ store. store.calls)) (take l.write-index l.writes) l.fn.self l.self (Ok tt)
    × (l.self.folder ≡ l.fn.self.folder)
    × (mutations_of l.self.calls.calls ≡ mutations_of l.fn.self.calls.calls + l.write-index)
