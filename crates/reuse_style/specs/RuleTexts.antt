-- The rules of a project's file of comments, as they are written (TOML 1.0, and this project's own keys).
use Rattle.std.specs.Prelude.{ℕ, Bool, List, [], ◌∷◌, Option, Some, None, option_and_then, if◌then◌else◌, codes}
use Rattle.std.specs.Option.{option_map}
use Rattle.toml.specs.Data.{Data, string, boolean, array, table, Items, no_items, item, Members, no_members, member}
use Rattle.toml.specs.Data.{as_array, as_bool, as_table}
use Rattle.reuse_style.specs.Taken.{with_text, take_text, with_value, take_value, is_done}

-- the texts of a rule: its globs, if they are there, and its style; and whether it says that it stands before the table
pub record RuleTexts : Type 0 where
  pub first_line : Option (List ℕ)
  pub name : Option (List ℕ)
  pub over_table : Option Bool
  pub style : List ℕ

-- the table that says them
abbrev pub rule_members : RuleTexts → Members
rule_members rule =
    with_text (codes "first-line") rule.first_line
    (with_text (codes "name") rule.name
    (with_value boolean (codes "over-table") rule.over_table
    (member (codes "style") (string rule.style) no_members)))

abbrev pub rule_items : List RuleTexts → Items
rule_items [] = no_items
rule_items (rule ∷ rules) = item (table (rule_members rule)) (rule_items rules)

abbrev pub rules_data : List RuleTexts → Data
rules_data rules = array (rule_items rules)

-- a rule of these texts, where nothing is left behind them
abbrev pub rule_between : Option (List ℕ) → Option (List ℕ) → Option Bool → Option (List ℕ) × Members
    → Option RuleTexts
rule_between first_line name over_table (style, others) =
    if is_done others then option_map (λ style. record {
      first_line = first_line;
      name = name;
      over_table = over_table;
      style = style;
    }) style else None

-- the texts of a rule's table, whose keys are in byte order
unfoldable pub texts_of_rule : Members → Option RuleTexts
texts_of_rule members =
    let first_line = take_text (codes "first-line") members in
    let name = take_text (codes "name") first_line.1 in
    let over_table = take_value as_bool (codes "over-table") name.1 in
    rule_between first_line.0 name.0 over_table.0 (take_text (codes "style") over_table.1)

abbrev pub rule_of_data : Data → Option RuleTexts
rule_of_data value = option_and_then texts_of_rule (as_table value)

-- the rules of an array, where it has nothing else
unfoldable pub rules_of_items : Items → Option (List RuleTexts)
rules_of_items no_items = Some []
rules_of_items (item value others) =
    option_and_then (λ rule. option_map (λ rules. rule ∷ rules) (rules_of_items others)) (rule_of_data value)

abbrev pub rules_of_data : Data → Option (List RuleTexts)
rules_of_data value = option_and_then rules_of_items (as_array value)
