-- What is added to a tree's own files of styles and of comments (this project's own; docs/RULES.md, "Styles").
use Rattle.std.specs.Prelude.{ℕ, Bool, true, false, not, ◌==◌, List, [], ◌∷◌, ◌++◌, codes, filter, flat_map, is_none}
use Rattle.std.specs.Prelude.{Option, Some, None, Result, Ok, Err, if◌then◌else◌}
use Rattle.std.specs.List.{list_all}
use Rattle.std.specs.Str.{bytes_eq}
use Rattle.reuse_text.specs.Text.{is_empty}
use Rattle.reuse_style.specs.Marks.{GoodStyle}
use Rattle.reuse_style.specs.Styles.{style_name}
use Rattle.reuse_style.specs.CommentFile.{comments_of}
use Rattle.reuse_style.specs.Rules.{CommentRules}
use Rattle.reuse_style.specs.Search.{holds}
use Rattle.reuse_style.specs.StyleFile.{styles_of, own_style_named}
use Rattle.reuse_style.specs.declared.comments_refusal.CommentsRefusal.{CommentsRefusal}
use Rattle.reuse_style.specs.declared.style.Kind.{Kind}
use Rattle.reuse_style.specs.declared.style.Kind.TheVariants.{Style, Uncommentable}
use Rattle.reuse_style.specs.declared.style_refusal.StylesRefusal.{StylesRefusal}
use Rattle.reuse_ready.specs.declared.additions.NameAddition.{NameAddition}
use Rattle.reuse_ready.specs.declared.additions.TableAddition.{TableAddition}
use Rattle.reuse_ready.specs.declared.additions.RuleAddition.{RuleAddition}
use Rattle.reuse_ready.specs.declared.additions.StyleAdditions.{StyleAdditions}
use Rattle.reuse_ready.specs.declared.own_lines.AddedLines.{AddedLines}
use Rattle.reuse_ready.specs.declared.own_lines.AdditionRefusal.{AdditionRefusal}
use Rattle.reuse_ready.specs.declared.own_lines.AdditionRefusal.TheVariants as refused

-- the additions whose names the tree doesn't have
abbrev pub missing_names : (List ℕ → Option Kind) → List NameAddition → List NameAddition
missing_names own names = filter (λ (n : NameAddition). is_none (own n.name)) names

abbrev pub missing_tables : List GoodStyle → List TableAddition → List TableAddition
missing_tables comments tables = filter (λ (t : TableAddition). is_none (own_style_named comments t.name)) tables

-- a file of comments has the line of these rules, whatever it says of such files
abbrev pub has_rules : Option (List ℕ) → RuleAddition → Bool
has_rules None r = false
has_rules (Some bytes) r = holds r.line bytes

abbrev pub missing_rules : Option (List ℕ) → List RuleAddition → List RuleAddition
missing_rules file rules = filter (λ (r : RuleAddition). not (has_rules file r)) rules

-- a name and its style, as a line of the file of styles
abbrev pub name_line : NameAddition → List ℕ
name_line n = codes "\"" ++ n.name ++ codes "\" = \"" ++ n.style ++ codes "\"\n"

-- a table behind an empty line
abbrev pub table_lines : TableAddition → List ℕ
table_lines t = codes "\n" ++ t.table

-- rules behind an empty line
abbrev pub rule_lines : RuleAddition → List ℕ
rule_lines r = codes "\n" ++ r.rules

-- bytes have a line end behind their last line
unfoldable pub is_ended : List ℕ → Bool
is_ended [] = true
is_ended (b ∷ []) = b == 10
is_ended (b ∷ bytes) = is_ended bytes

-- what stands in front of lines that come into a file: its first lines, where it isn't there, else the line end that
-- it lacks
abbrev pub before_lines : List ℕ → Option (List ℕ) → List ℕ
before_lines first_lines None = first_lines
before_lines first_lines (Some bytes) = if is_ended bytes then [] else codes "\n"

-- the lines that come behind those of a file: none where there is nothing to add
abbrev pub lines_behind : List ℕ → Option (List ℕ) → List ℕ → List ℕ
lines_behind first_lines file lines = if is_empty lines then [] else before_lines first_lines file ++ lines

abbrev pub style_lines : Option (List ℕ) → List NameAddition → List ℕ
style_lines file names = lines_behind (codes "version = 1\n\n[styles]\n") file (flat_map name_line names)

abbrev pub comment_lines : Option (List ℕ) → List TableAddition → List RuleAddition → List ℕ
comment_lines file tables rules =
    lines_behind (codes "version = 1\n") file (flat_map table_lines tables ++ flat_map rule_lines rules)

-- the file with lines behind it: none where it isn't there and there are no lines
abbrev pub with_lines : Option (List ℕ) → List ℕ → Option (List ℕ)
with_lines None lines = if is_empty lines then None else Some lines
with_lines (Some bytes) lines = Some (bytes ++ lines)

-- ---- read back

-- the kind is that of this name
abbrev pub has_kind : Option Kind → List ℕ → Bool
has_kind (Some (Style style)) name = bytes_eq (style_name style) name
has_kind (Some Uncommentable) name = bytes_eq name (codes "uncommentable")
has_kind kind name = false

abbrev pub are_named : (List ℕ → Option Kind) → List NameAddition → Bool
are_named own names = list_all (λ (n : NameAddition). has_kind (own n.name) n.style) names

-- the lines, unless the names don't have their styles by the files with them
abbrev pub if_named : AddedLines → List NameAddition → Result (List ℕ → Option Kind) StylesRefusal
    → Result AddedLines AdditionRefusal
if_named added names (Err refusal) = Err refused.Styles
if_named added names (Ok own) = if are_named own names then Ok added else Err refused.Styles

abbrev pub if_read : AddedLines → List NameAddition → Option (List ℕ) → Result CommentRules CommentsRefusal
    → Result AddedLines AdditionRefusal
if_read added names styles (Err refusal) = Err refused.Comments
if_read added names styles (Ok comments) = if_named added names (styles_of comments.styles styles)

abbrev pub read_back : AddedLines → List NameAddition → Option (List ℕ) → Option (List ℕ)
    → Result AddedLines AdditionRefusal
read_back added names styles comments =
    if_read added names (with_lines styles added.styles) (comments_of (with_lines comments added.comments))

-- the lines that come into each of the two files, where the tree has these names and comments by them
unfoldable pub lines_added : StyleAdditions → Option (List ℕ) → Option (List ℕ) → (List ℕ → Option Kind)
    → List GoodStyle → Result AddedLines AdditionRefusal
lines_added additions styles comments own own_comments =
    let names = missing_names own additions.names in
    read_back (record {
      styles = style_lines styles names;
      comments = comment_lines comments (missing_tables own_comments additions.tables)
          (missing_rules comments additions.rules);
    }) names styles comments
