use Rattle.std.proofs.Common.{◌≡◌, ◌++◌, map, length}
use Rattle.std.specs.Option.{option_map}
use Rattle.toml.specs.View.{items_view}
use Rattle.reuse_style.specs.RuleTexts.{rules_of_items}
use Rattle.reuse_style.specs.RuleViews.{rule_view}
use Rattle.reuse_style.proofs.rule_texts.rules_of_items.Given as goal

abbrev pub invariant-loop-item : goal.invariant-loop-item
invariant-loop-item l =
    rules_of_items (items_view l.initial.items) ≡ option_map (λ rules. map rule_view l.rules.items ++ rules)
    (rules_of_items (items_view l.items))

abbrev pub decreases-loop-item : goal.decreases-loop-item
decreases-loop-item l = length l.items
