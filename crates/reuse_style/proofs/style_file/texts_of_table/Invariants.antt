use Rattle.std.proofs.Common.{◌≡◌, ◌++◌, map, length}
use Rattle.std.specs.Option.{option_map}
use Rattle.toml.specs.View.{table_view, members_view}
use Rattle.reuse_style.specs.StyleFile.{texts_in}
use Rattle.reuse_style.proofs.style_file.texts_of_table.Given as goal

abbrev pub invariant-loop-name : goal.invariant-loop-name
invariant-loop-name l =
    texts_in (table_view l.names) ≡ option_map (λ texts. map (λ t. (t.0.now, t.1.now)) l.texts.items ++ texts)
    (texts_in (members_view l.entries))

abbrev pub decreases-loop-name : goal.decreases-loop-name
decreases-loop-name l = length l.entries
