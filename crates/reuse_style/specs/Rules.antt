-- Rules that give files a style by globs of their names and of their first lines (docs/RULES.md, "Rules").
use Rattle.std.specs.Prelude.{ℕ, Bool, true, false, not, ◌&&◌, ◌||◌, List, [], ◌∷◌, Option, Some, None, is_some}
use Rattle.std.specs.Prelude.{option_and_then, unwrap_or}
use Rattle.std.specs.Option.{option_map_or}
use Rattle.reuse_text.specs.Text.{TextLine, lines_of, after_mark}
use Rattle.reuse_style.specs.declared.glob.GlobPiece.{GlobPiece}
use Rattle.reuse_style.specs.declared.glob.Letters.TheVariants.{Exact, AnyCase}
use Rattle.reuse_style.specs.Globs.{read_glob, glob_fits}
use Rattle.reuse_style.specs.Marks.{GoodStyle}
use Rattle.reuse_style.specs.RuleTexts.{RuleTexts}

-- a rule: globs of the last part of a path and of the first line of a file, if they are there; whether it stands before
-- the table of names; and the name of its style
pub record Rule : Type 0 where
  pub name : Option (List GlobPiece)
  pub first_line : Option (List GlobPiece)
  pub over_table : Bool
  pub style : List ℕ

-- what a project says in its file of comments: styles, and rules in order
pub record CommentRules : Type 0 where
  pub styles : List GoodStyle
  pub rules : List Rule

-- ---- rules of texts

-- a text, if it is there, spells a glob
abbrev pub is_glob : Option (List ℕ) → Bool
is_glob text = option_map_or (λ bytes. is_some (read_glob bytes)) text true

-- the texts say a glob of the one or of the other, or both
abbrev pub is_rule : RuleTexts → Bool
is_rule texts =
    (is_some texts.name || is_some texts.first_line) && is_glob texts.name && is_glob texts.first_line

abbrev pub rule_of : RuleTexts → Rule
rule_of texts = record {
  name = option_and_then read_glob texts.name;
  first_line = option_and_then read_glob texts.first_line;
  over_table = unwrap_or texts.over_table false;
  style = texts.style;
}

-- ---- the files that a rule fits

-- the content of the first line of a file, behind its mark: none where nothing is there
abbrev pub first_content : List TextLine → Option (List ℕ)
first_content [] = None
first_content (line ∷ lines) = Some line.content

abbrev pub first_line_of : List ℕ → Option (List ℕ)
first_line_of file = first_content (lines_of (after_mark file))

-- A rule may fit a file of this name: its glob of names, if there is one, fits the name, where letters of either case
-- are the same; and it stands before the table of names, or the table doesn't have the name.
abbrev pub may_fit : Bool → List ℕ → Rule → Bool
may_fit in_table name rule =
    (rule.over_table || not in_table) && option_map_or (λ glob. glob_fits AnyCase glob name) rule.name true

-- its glob of first lines, if there is one, fits the first line, which is there
abbrev pub line_fits : Option (List ℕ) → Rule → Bool
line_fits line rule =
    option_map_or (λ glob. option_map_or (λ content. glob_fits Exact glob content) line false) rule.first_line true
