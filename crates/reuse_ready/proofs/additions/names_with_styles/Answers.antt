use Rattle.std.proofs.Common.{[], ◌∷◌, ◌++◌, ◌∙◌, ap}
use Rattle.std.specs.List.{filter_map}
use Rattle.std.proofs.lemmas.List.Elements.{filter_map-append}
use Rattle.reuse_ready.specs.Needed.{name_addition}
use Rattle.reuse_ready.proofs.ListLemmas.{gathered}
use Rattle.reuse_ready.proofs.additions.names_with_styles.Goals as goal

pub loop-row-preserved : goal.loop-row-preserved
loop-row-preserved c =
    gathered (filter_map name_addition) (filter_map-append name_addition) [] c.args.rows.now c.loop-row.row-index
    c.row-item.result c.loop-row.names.items c.push_name.new.names.items c.loop-row-test.true c.loop-row.invariant
    (c.in_ok-push_name.ensures
    ∙ ap (λ r. c.loop-row.names.items ++ filter_map name_addition (r ∷ [])) c.row-item.is)
