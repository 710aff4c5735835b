-- What prefix lines are, by their parts (docs/RULES.md, "Prefix lines").
use Rattle.std.specs.Prelude.{◌≡◌, ℕ, Bool, true, false, List, [], ◌∷◌, ◌++◌, All, ◌⊎◌, Option, None, Some}
use Rattle.reuse_text.specs.Text.{TextLine}
use Rattle.reuse_style.specs.declared.style.Style.{Style}
use Rattle.reuse_style.specs.Marks.{FrontMatterForm, begins_with_one}
use Rattle.reuse_style.specs.Styles.{first_lines_of, front_matter_of}
use Rattle.reuse_header.specs.Body.{PlacedLines, is_shebang, is_declaration, without_first, is_whole_line, body_lines}
use Rattle.reuse_header.specs.Annotation.{first_if, prefix_lines}

-- the first of some lines, if there is one, fails a test
abbrev pub BeginsOther : (List ℕ → Bool) → PlacedLines → Type 0
BeginsOther test [] = Unit {0}
BeginsOther test (line ∷ lines) = test line.1.content ≡ false

-- lines are front matter: its first line, lines that are not its last, and its last line
pub record IsFrontMatter (form : FrontMatterForm) (lines : PlacedLines) : Type 0 where
  pub first : ℕ × TextLine
  pub between : PlacedLines
  pub last : ℕ × TextLine
  pub joined : lines ≡ first ∷ (between ++ last ∷ [])
  pub begins : is_whole_line form.first_line first.1.content ≡ true
  pub goes_on : All (λ line. is_whole_line form.last_line line.1.content ≡ false) between
  pub ends : is_whole_line form.last_line last.1.content ≡ true

-- lines don't begin with front matter
abbrev pub BeginsNoMatter : FrontMatterForm → PlacedLines → Type 0
BeginsNoMatter form lines = (front back : PlacedLines) → lines ≡ front ++ back → IsFrontMatter form front → ⊥

-- the front matter in front of a body: there is none only where the style has none, or the body doesn't begin with it
abbrev pub IsMatterBefore : Option FrontMatterForm → PlacedLines → PlacedLines → Type 0
IsMatterBefore None matter body = matter ≡ []
IsMatterBefore (Some form) matter body = IsFrontMatter form matter ⊎ ((matter ≡ []) × (BeginsNoMatter form body))

-- lines are prefix lines and a body. The prefix lines are an interpreter line, a declaration, as many first lines as
-- follow these, and front matter
pub record IsPrefixCut (style : Style) (lines first matter : PlacedLines) : Type 0 where
  pub whole : lines ≡ prefix_lines style lines ++ body_lines style lines
  pub prefix : prefix_lines style lines
      ≡ first_if is_shebang lines ++ (first_if (is_declaration style) (without_first is_shebang lines) ++
      (first ++ matter))
  pub begin : All (λ line. begins_with_one (first_lines_of style) line.1.content ≡ true) first
  pub others : BeginsOther (begins_with_one (first_lines_of style)) (matter ++ body_lines style lines)
  pub ends : IsMatterBefore (front_matter_of style) matter (body_lines style lines)

-- the prefix lines of a style that states none itself, and the lines behind them
pub record HasPlainPrefix (style : Style) (lines : PlacedLines) : Type 0 where
  pub prefix : prefix_lines style lines
      ≡ first_if is_shebang lines ++ first_if (is_declaration style) (without_first is_shebang lines)
  pub body : body_lines style lines ≡ without_first (is_declaration style) (without_first is_shebang lines)
