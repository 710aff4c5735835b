use Rattle.std.proofs.Common.{◌≡◌, ◌++◌, map, length}
use Rattle.std.specs.List.{list_all}
use Rattle.reuse_style.specs.Rules.{is_rule, rule_of}
use Rattle.reuse_style.specs.RuleViews.{rule_view}
use Rattle.reuse_style.proofs.comment_rules.rules_of_texts.Given as goal

abbrev pub invariant-loop-texts : goal.invariant-loop-texts
invariant-loop-texts l =
    (list_all is_rule (map rule_view l.texts) ≡ list_all is_rule (map rule_view l.initial.texts))
    × (l.rules.items ++ map rule_of (map rule_view l.texts) ≡ map rule_of (map rule_view l.initial.texts))

abbrev pub decreases-loop-texts : goal.decreases-loop-texts
decreases-loop-texts l = length l.texts
