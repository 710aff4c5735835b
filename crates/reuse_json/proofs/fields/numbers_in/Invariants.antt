use Rattle.std.proofs.Common.{◌≡◌, drop}
use Rattle.serde_json.specs.View.{items_view}
use Rattle.reuse_json.specs.JsonReading.{read_items, small_in, with_front}
use Rattle.reuse_json.proofs.fields.numbers_in.Given as goal

-- the numbers so far, and those of what is left, are those of all
abbrev pub invariant-loop-value : goal.invariant-loop-value
invariant-loop-value l =
    with_front l.numbers.items (read_items small_in (items_view (drop l.value-index l.values))) ≡ read_items small_in
    (items_view l.values)
