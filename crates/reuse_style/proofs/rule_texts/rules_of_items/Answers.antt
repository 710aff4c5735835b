use Rattle.std.proofs.Common.{ap, sym, ◌∙◌, Option}
use Rattle.std.specs.Option.{option_map}
use Rattle.toml.specs.View.{view, items_view}
use Rattle.reuse_style.specs.declared.rule_texts.RuleTexts.{RuleTexts as LentTexts}
use Rattle.reuse_style.specs.RuleTexts.{rules_of_items}
use Rattle.reuse_style.specs.RuleViews.{rule_view}
use Rattle.reuse_style.proofs.RuleDocumentLemmas.{rules_pushed}
use Rattle.reuse_style.proofs.rule_texts.rules_of_items.Goals as goal

pub loop-item-preserved : goal.loop-item-preserved
loop-item-preserved c =
    rules_pushed rule_view (rules_of_items (items_view c.args.items.now)) c.loop-item.rules.items
    c.push.new.self.items c.in-Some-2.rule (view c.in-Some.item.now) (items_view c.in-Some.others.now)
    (items_view c.loop-item.items.now) c.in_ok-push.ensures.items
    (ap (λ (o : Option LentTexts). option_map rule_view o) (sym c.in-Some-2.is) ∙ c.in_ok-rule.ensures)
    (ap items_view c.in-Some.ensures.cases.0) c.loop-item.invariant
