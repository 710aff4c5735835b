use Rattle.std.proofs.Common.{◌∷◌}
use Rattle.reuse_system.specs.FileStates.{place_in}
use Rattle.reuse_system.specs.SystemCall.SystemCall.{ReadCall}
use Rattle.reuse_system.proofs.system.record.SystemRecord.note_read.Given as goal

abbrev pub ghost-note : goal.ghost-note
ghost-note a =
    let asked = a._first.now in
    let call = ReadCall (place_in asked.0 asked.1.now) asked.2 asked.3 a._second.now in
    record a.self.now { calls = call ∷ a.self.now.calls }
