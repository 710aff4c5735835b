use Rattle.std.proofs.Common.{◌∷◌}
use Rattle.reuse_system.specs.SystemCalls.{call_of}
use Rattle.reuse_system.proofs.system.record.SystemRecord.note.Given as goal

abbrev pub ghost-note : goal.ghost-note
ghost-note a =
    let names = a._second.now in
    record a.self.now { calls = call_of a._first.now names.0.now names.1.now ∷ a.self.now.calls }
