use Rattle.std.proofs.Common.{◌∷◌}
use Rattle.std.specs.Result.{result_map_both}
use Rattle.reuse_store.specs.Calls.Call.{ListCall}
use Rattle.reuse_store.proofs.record.CallRecord.note_list.Given as goal

abbrev pub ghost-note : goal.ghost-note
ghost-note g a =
    let answer = result_map_both (λ paths. paths.items) (λ fault. fault) a._second.now in
    record a.self.now { calls = ListCall a._first.now.now g.pruned answer ∷ a.self.now.calls }
