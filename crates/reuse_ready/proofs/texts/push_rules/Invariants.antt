use Rattle.std.proofs.Common.{◌≡◌, ◌++◌, take, map}
use Rattle.std.specs.List.{flat_map}
use Rattle.reuse_ready.specs.Ready.{rule_text}
use Rattle.reuse_ready.proofs.texts.push_rules.Given as goal

abbrev pub invariant-loop-pattern : goal.invariant-loop-pattern
invariant-loop-pattern l =
    l.text ≡ l.fn.text ++ flat_map rule_text (map (λ rule. (rule.0.now, rule.1.now)) (take l.pattern-index l.rules))
