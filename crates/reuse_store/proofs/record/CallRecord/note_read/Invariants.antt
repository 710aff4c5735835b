use Rattle.std.proofs.Common.{◌∷◌}
use Rattle.reuse_store.specs.Calls.Call.{ReadCall}
use Rattle.reuse_store.proofs.record.CallRecord.note_read.Given as goal

abbrev pub ghost-note : goal.ghost-note
ghost-note a =
    let asked = a._first.now in
    record a.self.now { calls = ReadCall asked.0.now asked.1 a._second.now ∷ a.self.now.calls }
