-- The texts of rules as the code holds them.
use Rattle.std.specs.Prelude.{List, Option, Vec, map}
use Rattle.std.specs.Option.{option_copied, option_map}
use Rattle.std.specs.declared.alloc.Global.{Global}
use Rattle.reuse_style.specs.declared.rule_texts.RuleTexts.{RuleTexts as LentTexts}
use Rattle.reuse_style.specs.RuleTexts.{RuleTexts}

abbrev pub rule_view : LentTexts → RuleTexts
rule_view texts = record {
  first_line = option_copied texts.first_line;
  name = option_copied texts.name;
  over_table = texts.over_table;
  style = texts.style.now;
}

abbrev pub rules_view : Option (Vec LentTexts Global) → Option (List RuleTexts)
rules_view = option_map (λ rules. map rule_view rules.items)
