use Rattle.std.proofs.Common.{◌∷◌}
use Rattle.std.specs.Option.{option_map}
use Rattle.std.specs.Path.{path_buf_bytes}
use Rattle.reuse_lock.specs.LockCall.LockCall.{PathCall}
use Rattle.reuse_lock.proofs.calls.absolute_path.Given as goal

abbrev pub ghost-note : goal.ghost-note
ghost-note g a =
    let reported = option_map path_buf_bytes a._second.now in
    record a.self.now { calls = PathCall a._first.now.now reported ∷ a.self.now.calls }
