use Rattle.std.proofs.Common.{◌∷◌}
use Rattle.reuse_change.specs.Parts.{joined}
use Rattle.reuse_store.specs.Calls.{took_effect}
use Rattle.reuse_store.specs.Calls.Call.{PutCall}
use Rattle.reuse_store.proofs.record.CallRecord.note_put_parts.Given as goal

abbrev pub ghost-note : goal.ghost-note
ghost-note a =
    let reported = a.self.now in
    let call = a._first.now in
    let took = took_effect reported.effects reported.calls in
    record reported { calls = PutCall call.0.now (joined a._second.now) call.1.now took ∷ reported.calls }
