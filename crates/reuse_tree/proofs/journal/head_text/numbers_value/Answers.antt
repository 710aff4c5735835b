use Rattle.std.proofs.Common.{◌++◌, ◌∷◌, [], List, ap, ap₂, sym, ◌∙◌, map, take_all}
use Rattle.std.proofs.lemmas.List.{map-append, map_more}
use Rattle.serde_json.specs.Data.{Data, array}
use Rattle.serde_json.specs.View.{items_of, view}
use Rattle.serde_json.proofs.Views.{view-Array}
use Rattle.reuse_json.specs.Json.{count}
use Rattle.reuse_tree.proofs.journal.head_text.numbers_value.Goals as goal

pub loop-number-preserved : goal.loop-number-preserved
loop-number-preserved c =
    ap (map view) c.in_ok-push.ensures.items
    ∙ map-append view c.loop-number.values.items (c.from.result ∷ [])
    ∙ ap₂ (λ (l : List Data) (d : Data). l ++ d ∷ []) c.loop-number.invariant c.from.ensures
    ∙ sym (map_more count c.args.numbers.now c.loop-number.number-index 0 c.loop-number-test.true)

pub returns : goal.returns
returns c =
    view-Array c.loop-number.values
    ∙ ap (λ (l : List Data). array (items_of l)) (c.loop-number.invariant
    ∙ ap (map count) (take_all c.loop-number.number-index c.args.numbers.now c.loop-number-test.false))
