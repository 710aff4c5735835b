use Rattle.std.proofs.Common.{◌∷◌}
use Rattle.reuse_store.specs.Calls.Call.{SyncCall}
use Rattle.reuse_store.proofs.record.CallRecord.note_sync.Given as goal

abbrev pub ghost-note : goal.ghost-note
ghost-note a =
    record a.self.now { calls = SyncCall a._first.now.now a._second.now ∷ a.self.now.calls }
