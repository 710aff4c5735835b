use Rattle.std.proofs.Common.{◌≡◌, take}
use Rattle.std.specs.List.{filter_map}
use Rattle.reuse_ready.specs.Needed.{name_addition}
use Rattle.reuse_ready.proofs.additions.names_with_styles.Given as goal

abbrev pub invariant-loop-row : goal.invariant-loop-row
invariant-loop-row l = l.names.items ≡ filter_map name_addition (take l.row-index l.rows)
