use Rattle.std.proofs.Common.{◌≡◌, length}
use Rattle.std.specs.Prelude.{find}
use Rattle.std.specs.Str.{bytes_eq}
use Rattle.reuse_arguments.specs.PrefixNames.{prefix_name}
use Rattle.reuse_arguments.proofs.prefix_name.find_named.Given as goal

abbrev pub invariant-loop-prefixes : goal.invariant-loop-prefixes
invariant-loop-prefixes l = find (λ prefix. bytes_eq (prefix_name prefix) l.name) l.prefixes ≡ find
    (λ prefix. bytes_eq (prefix_name prefix) l.name) l.initial.prefixes

abbrev pub decreases-loop-prefixes : goal.decreases-loop-prefixes
decreases-loop-prefixes l = length l.prefixes
