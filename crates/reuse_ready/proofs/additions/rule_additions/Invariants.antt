use Rattle.std.proofs.Common.{◌≡◌, take, map}
use Rattle.reuse_ready.specs.Needed.{rule_addition}
use Rattle.reuse_ready.proofs.additions.rule_additions.Given as goal

abbrev pub invariant-loop-rule : goal.invariant-loop-rule
invariant-loop-rule l = l.additions.items
    ≡ map rule_addition (map (λ rule. (rule.0.now, rule.1.now)) (take l.rule-index l.rules))
