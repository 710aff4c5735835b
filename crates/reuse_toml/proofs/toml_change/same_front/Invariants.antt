use Rattle.std.proofs.Common.{◌≡◌, ◌≤◌, ◌+◌, drop, length}
use Rattle.std.specs.Prelude.{nat_eq}
use Rattle.std.specs.List.{common_prefix_len}
use Rattle.reuse_toml.proofs.toml_change.same_front.Given as goal

abbrev pub invariant-loop-i : goal.invariant-loop-i
invariant-loop-i l =
    (l.i ≤ length l.other)
    × (l.i + common_prefix_len nat_eq (drop l.i l.text) (drop l.i l.other) ≡ common_prefix_len nat_eq l.text l.other)
