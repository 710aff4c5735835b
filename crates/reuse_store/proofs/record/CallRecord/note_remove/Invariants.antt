use Rattle.std.proofs.Common.{◌∷◌}
use Rattle.reuse_store.specs.Calls.{took_effect}
use Rattle.reuse_store.specs.Calls.Call.{RemoveCall}
use Rattle.reuse_store.proofs.record.CallRecord.note_remove.Given as goal

abbrev pub ghost-note : goal.ghost-note
ghost-note a =
    let reported = a.self.now in
    let took = took_effect reported.effects reported.calls in
    record reported { calls = RemoveCall a._first.now a._second.now took ∷ reported.calls }
