use Rattle.std.proofs.Common.{◌≡◌, take, map}
use Rattle.serde_json.specs.View.{view}
use Rattle.reuse_print.specs.Objects.{change_value}
use Rattle.reuse_print.proofs.objects.changes_value.Given as goal

-- the values so far are those of the changes so far
abbrev pub invariant-loop-change : goal.invariant-loop-change
invariant-loop-change l = map view l.values.items ≡ map change_value (take l.change-index l.changes)
