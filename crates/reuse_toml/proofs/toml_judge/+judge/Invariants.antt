use Rattle.std.proofs.Common.{◌≡◌, drop}
use Rattle.toml.specs.View.{items_view, members_view, table_view}
use Rattle.reuse_toml.specs.TomlAmending.{are_amended, members_amended}
use Rattle.reuse_toml.proofs.toml_judge.+judge.Given as goal

abbrev pub invariant-are_amended-loop-value : goal.invariant-are_amended-loop-value
invariant-are_amended-loop-value l =
    are_amended l.amendments l.level (items_view (drop l.value-index l.items))
    (items_view l.left) ≡ are_amended l.amendments l.level (items_view l.items) (items_view l.others)

abbrev pub invariant-are_members_amended-loop-name : goal.invariant-are_members_amended-loop-name
invariant-are_members_amended-loop-name l =
    members_amended l.amendments l.level (members_view l.name-iterator)
    (members_view l.left) ≡ members_amended l.amendments l.level (table_view l.members) (table_view l.others)
