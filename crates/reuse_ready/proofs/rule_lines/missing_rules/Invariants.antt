use Rattle.std.proofs.Common.{◌≡◌, take, map}
use Rattle.std.specs.Option.{option_copied}
use Rattle.reuse_ready.specs.Additions.{missing_rules}
use Rattle.reuse_ready.proofs.rule_lines.missing_rules.Given as goal

abbrev pub invariant-loop-rule : goal.invariant-loop-rule
invariant-loop-rule l =
    map (λ rule. rule.now) l.missing.items ≡ missing_rules (option_copied l.file) (take l.rule-index l.rules)
