use Rattle.std.proofs.Common.{◌≡◌, length}
use Rattle.std.specs.Prelude.{find}
use Rattle.std.specs.List.{filter}
use Rattle.reuse_style.specs.Passing.{passes}
use Rattle.reuse_style.specs.Rules.{may_fit}
use Rattle.reuse_style.proofs.rule.first_fit.Given as goal

abbrev pub invariant-loop-rule : goal.invariant-loop-rule
invariant-loop-rule l =
    find (passes l.line) (filter (may_fit l.in_table l.name) l.rules) ≡ find (passes l.line)
    (filter (may_fit l.in_table l.name) l.initial.rules)

abbrev pub decreases-loop-rule : goal.decreases-loop-rule
decreases-loop-rule l = length l.rules
