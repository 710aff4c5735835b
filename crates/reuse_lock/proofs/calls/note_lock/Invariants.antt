use Rattle.std.proofs.Common.{◌∷◌}
use Rattle.reuse_lock.specs.LockCall.LockCall.{TryCall}
use Rattle.reuse_lock.proofs.calls.note_lock.Given as goal

abbrev pub ghost-note : goal.ghost-note
ghost-note a =
    let asked = a._first.now in
    record a.self.now { calls = TryCall asked.0.now asked.1 a._second.now ∷ a.self.now.calls }
