-- The ready tables: the style that a name has by them, the comment styles that are none of the table of styles, and the
-- texts that list both.
use Rattle.std.specs.Prelude.{ℕ, Bool, false, List, ◌++◌, length, take, nat_lt, map, Option, Some, None, find, codes}
use Rattle.std.specs.Prelude.{if◌then◌else◌}
use Rattle.std.specs.List.{filter_map, flat_map, list_any}
use Rattle.std.specs.Option.{option_map, option_or}
use Rattle.std.specs.Str.{bytes_eq, str_eq_ignore_ascii_case}
use Rattle.reuse_style.specs.Names.{lookup}
use Rattle.reuse_ready.specs.declared.table_lines.TheConstants.{TABLE_LINES}
use Rattle.reuse_ready.specs.declared.uncommentable_lines.TheConstants.{UNCOMMENTABLE_LINES}
use Rattle.reuse_ready.specs.declared.other_lines.TheConstants.{OTHER_LINES}
use Rattle.reuse_ready.specs.declared.comments.TheConstants.{READY_COMMENTS}
use Rattle.reuse_ready.specs.declared.rules.TheConstants.{READY_FRONTS, READY_NAME_RULES, READY_RULES}
use Rattle.reuse_ready.specs.declared.texts.TheConstants.{STYLES_TOP, COMMENTS_TOP, FRONTS_TITLE, RULES_TITLE}
use Rattle.reuse_ready.specs.Additions.{name_line}

-- a line of the ready names: a name with its style, or a title, which has none
abbrev pub ReadyLine : Type 0
ReadyLine = List ℕ × Option (List ℕ)

-- the lines of the names whose style is one of the table of styles, of those without comments, and of the others
unfoldable pub table_names : List ReadyLine
table_names = map (λ line. (line.0.now, option_map (λ style. style.now) line.1)) TABLE_LINES

unfoldable pub uncommentable_names : List ReadyLine
uncommentable_names = map (λ line. (line.0.now, option_map (λ style. style.now) line.1)) UNCOMMENTABLE_LINES

unfoldable pub other_names : List ReadyLine
other_names = map (λ line. (line.0.now, option_map (λ style. style.now) line.1)) OTHER_LINES

-- the lines behind the first
unfoldable pub later_names : List ReadyLine
later_names = uncommentable_names ++ other_names

-- the name and the style of a line that has them
abbrev pub named : ReadyLine → Option (List ℕ × List ℕ)
named line = option_map (λ style. (line.0, style)) line.1

-- the style of the first ready name that is the same but for the case of ASCII letters
unfoldable pub listed_style : List ℕ → Option (List ℕ)
listed_style name = lookup (filter_map named (table_names ++ later_names)) name

-- beginnings of names, each with its style
unfoldable pub ready_fronts : List (List ℕ × List ℕ)
ready_fronts = map (λ front. (front.0.now, front.1.now)) READY_FRONTS

-- a name begins so, but for the case of ASCII letters
abbrev pub begins_with : List ℕ → List ℕ → Bool
begins_with front name =
    if nat_lt (length name) (length front) then false else str_eq_ignore_ascii_case front (take (length front) name)

-- the style of the first of some beginnings that a name has
abbrev pub front_style : List (List ℕ × List ℕ) → List ℕ → Option (List ℕ)
front_style fronts name =
    option_map (λ (front : List ℕ × List ℕ). front.1) (find (λ front. begins_with front.0 name) fronts)

-- the ready style of a name
abbrev pub ready_style : List ℕ → Option (List ℕ)
ready_style name = option_or (listed_style name) (front_style ready_fronts name)

-- patterns of first lines, each with its style
unfoldable pub ready_rules : List (List ℕ × List ℕ)
ready_rules = map (λ rule. (rule.0.now, rule.1.now)) READY_RULES

-- endings of names that have ready rules, each with these
unfoldable pub ready_name_rules : List (List ℕ × List ℕ)
ready_name_rules = map (λ rules. (rules.0.now, rules.1.now)) READY_NAME_RULES

-- a name is one of those that some rules are for, but for the case of ASCII letters
abbrev pub is_named_in : List (List ℕ × List ℕ) → List ℕ → Bool
is_named_in rules name = list_any (λ rule. str_eq_ignore_ascii_case rule.0 name) rules

-- there are ready rules for a name
abbrev pub has_ready_rules : List ℕ → Bool
has_ready_rules name = is_named_in ready_name_rules name

-- the ready comments, each with its name and its table
unfoldable pub ready_comments : List (List ℕ × List ℕ)
ready_comments = map (λ comment. (comment.0.now, comment.1.now)) READY_COMMENTS

-- the table of the ready comment that has a name
abbrev pub ready_comment : List ℕ → Option (List ℕ)
ready_comment name =
    option_map (λ (comment : List ℕ × List ℕ). comment.1) (find (λ comment. bytes_eq comment.0 name) ready_comments)

-- ---- the texts

-- a title behind an empty line
unfoldable pub title_line : List ℕ → List ℕ
title_line text = codes "\n# " ++ text ++ codes "\n"

abbrev pub line_text : ReadyLine → List ℕ
line_text (text, None) = title_line text
line_text (text, Some style) = name_line (record { name = text; style = style })

-- a ready comment, or ready rules for names, behind an empty line
abbrev pub comment_text : List ℕ × List ℕ → List ℕ
comment_text comment = codes "\n" ++ comment.1

-- a rule for names that begin so, behind an empty line
unfoldable pub front_text : List ℕ × List ℕ → List ℕ
front_text front =
    codes "\n[[rules]]\nname = \"" ++ front.0 ++ codes "*\"\nstyle = \"" ++ front.1 ++ codes "\"\n"

-- the line of a rule's pattern of first lines, and such a rule
abbrev pub pattern_line : List ℕ → List ℕ
pattern_line pattern = codes "first-line = \"" ++ pattern ++ codes "\""

unfoldable pub pattern_rule : List ℕ × List ℕ → List ℕ
pattern_rule rule =
    codes "[[rules]]\n" ++ pattern_line rule.0 ++ codes "\nstyle = \"" ++ rule.1 ++ codes "\"\n"

-- the line of a rule for names that end so
abbrev pub name_rule_line : List ℕ → List ℕ
name_rule_line ending = codes "name = \"*" ++ ending ++ codes "\""

-- a rule for first lines behind an empty line
unfoldable pub rule_text : List ℕ × List ℕ → List ℕ
rule_text rule = codes "\n" ++ pattern_rule rule

-- the file of styles that has all ready names
unfoldable pub ready_styles_text : List ℕ
ready_styles_text =
    STYLES_TOP.now ++ flat_map line_text table_names ++ flat_map line_text uncommentable_names
    ++ flat_map line_text other_names

-- the ready rules for names, and those for first lines
unfoldable pub fronts_text : List ℕ
fronts_text = title_line FRONTS_TITLE.now ++ flat_map front_text ready_fronts

unfoldable pub rules_text : List ℕ
rules_text = title_line RULES_TITLE.now ++ flat_map rule_text ready_rules

-- the file of comments that has all ready comments and rules
unfoldable pub ready_comments_text : List ℕ
ready_comments_text =
    COMMENTS_TOP.now ++ flat_map comment_text ready_comments ++ fronts_text ++ rules_text
    ++ flat_map comment_text ready_name_rules
