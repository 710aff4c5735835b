-- What the ready tables add for counted names.
use Rattle.std.specs.Prelude.{ℕ, Bool, false, not, ◌&&◌, ◌==◌, List, [], ◌++◌, map, filter, Option, is_none}
use Rattle.std.specs.Prelude.{if◌then◌else◌}
use Rattle.std.specs.List.{list_any, filter_map}
use Rattle.std.specs.Option.{option_map, option_map_or}
use Rattle.std.specs.Str.{bytes_eq, str_eq_ignore_ascii_case}
use Rattle.reuse_ready.specs.declared.name_count.NameCount.{NameCount}
use Rattle.reuse_ready.specs.declared.additions.NameAddition.{NameAddition}
use Rattle.reuse_ready.specs.declared.additions.TableAddition.{TableAddition}
use Rattle.reuse_ready.specs.declared.additions.RuleAddition.{RuleAddition}
use Rattle.reuse_ready.specs.declared.additions.StyleAdditions.{StyleAdditions}
use Rattle.reuse_style.specs.Names.{dot}
use Rattle.reuse_ready.specs.Ready.{ready_comments, ready_rules, ready_name_rules}
use Rattle.reuse_ready.specs.Ready.{pattern_line, pattern_rule, name_rule_line}

-- a counted name, with its ready style
abbrev pub name_addition : NameCount → Option NameAddition
name_addition row = option_map (λ style. record { name = row.name; style = style }) row.style

-- a ready comment, as what is added of it
abbrev pub table_addition : List ℕ × List ℕ → TableAddition
table_addition comment = record { name = comment.0; table = comment.1 }

-- a counted name has this style
abbrev pub is_needed : List NameCount → List ℕ → Bool
is_needed rows style = list_any (λ row. option_map_or (λ own. bytes_eq own style) row.style false) rows

-- a counted name without an ending that has no ready style: it may be a script's
abbrev pub is_bare : NameCount → Bool
is_bare row = is_none row.style && not (list_any (λ b. b == dot) row.name)

-- a ready rule for first lines, as what is added of it
abbrev pub rule_addition : List ℕ × List ℕ → RuleAddition
rule_addition rule = record { line = pattern_line rule.0; rules = pattern_rule rule }

-- rules, where a counted name may be a script's
abbrev pub needed_rules : List NameCount → List (List ℕ × List ℕ) → List RuleAddition
needed_rules rows rules = if list_any is_bare rows then map rule_addition rules else []

-- a name is a counted one, but for the case of ASCII letters
abbrev pub is_counted : List NameCount → List ℕ → Bool
is_counted rows name = list_any (λ row. str_eq_ignore_ascii_case name row.name) rows

-- the ready rules for a name, as what is added of them
abbrev pub name_rules_addition : List ℕ × List ℕ → RuleAddition
name_rules_addition rules = record { line = name_rule_line rules.0; rules = rules.1 }

-- of the rules for names those for counted ones
abbrev pub needed_name_rules : List NameCount → List (List ℕ × List ℕ) → List RuleAddition
needed_name_rules rows rules = map name_rules_addition (filter (λ rule. is_counted rows rule.0) rules)

-- the counted names that have a ready style, the ready comments that are styles of them, the ready rules for first
-- lines, where a name may be a script's, and those for counted names
unfoldable pub additions_of : List NameCount → StyleAdditions
additions_of rows = record {
  names = filter_map name_addition rows;
  tables = filter (λ addition. is_needed rows addition.name) (map table_addition ready_comments);
  rules = needed_rules rows ready_rules ++ needed_name_rules rows ready_name_rules;
}
