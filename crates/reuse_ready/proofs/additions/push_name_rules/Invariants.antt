use Rattle.std.proofs.Common.{◌≡◌, ◌++◌, take, map}
use Rattle.reuse_ready.specs.Needed.{needed_name_rules}
use Rattle.reuse_ready.proofs.additions.push_name_rules.Given as goal

abbrev pub invariant-loop-rule : goal.invariant-loop-rule
invariant-loop-rule l = l.needed.items ≡ l.fn.needed.items
    ++ needed_name_rules l.rows (map (λ rule. (rule.0.now, rule.1.now)) (take l.rule-index l.rules))
