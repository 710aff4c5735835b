-- The comment styles of the table: their names and marks, and what a style says of comments (docs/RULES.md, "Styles").
use Rattle.std.specs.Prelude.{◌≡◌, ℕ, true, List, [], ◌∷◌, map, Option, Some, None, find, codes, refl}
use Rattle.std.specs.Str.{bytes_eq}
use Rattle.reuse_style.specs.declared.table.TableStyle.{TableStyle}
use Rattle.reuse_style.specs.declared.table.TableStyle.TheVariants.{Python, C, Css, Html, Haskell, Tex, Lisp, Semicolon}
use Rattle.reuse_style.specs.declared.table.TableStyle.TheVariants.{Ml, Vim}
use Rattle.reuse_style.specs.declared.marks.Declaration.{Declaration}
use Rattle.reuse_style.specs.declared.marks.Declaration.TheVariants as declarations
use Rattle.reuse_style.specs.Search.{place_of}
use Rattle.reuse_style.specs.Marks.{LineForm, BlockForm, FrontMatterForm, CommentMarks, GoodStyle, is_good}
use Rattle.reuse_style.specs.Marks.{first_mark_fault, forms_fault, prefix_fault, punctuation_in}

-- ---- what a style says of comments

abbrev pub style_name : GoodStyle → List ℕ
style_name style = style.name

abbrev pub line_comment_of : GoodStyle → Option LineForm
line_comment_of style = style.marks.line

abbrev pub block_comment_of : GoodStyle → Option BlockForm
block_comment_of style = style.marks.block

abbrev pub punctuation_of : GoodStyle → List ℕ
punctuation_of style = punctuation_in style.marks

abbrev pub declaration_of : GoodStyle → Declaration
declaration_of style = style.marks.declaration

abbrev pub first_lines_of : GoodStyle → List (List ℕ)
first_lines_of style = style.marks.first_lines

abbrev pub front_matter_of : GoodStyle → Option FrontMatterForm
front_matter_of style = style.marks.front_matter

-- ---- the styles of the table

-- the name of each style
abbrev pub table_name : TableStyle → List ℕ
table_name Python = codes "python"
table_name C = codes "c"
table_name Css = codes "css"
table_name Html = codes "html"
table_name Haskell = codes "haskell"
table_name Tex = codes "tex"
table_name Lisp = codes "lisp"
table_name Semicolon = codes "semicolon"
table_name Ml = codes "ml"
table_name Vim = codes "vim"

-- a single-line form of some texts
abbrev pub marked : List ℕ → List ℕ → Option LineForm
marked marker lead = Some (record { marker = marker; lead = lead })

-- the single-line form of each style
abbrev pub table_line : TableStyle → Option LineForm
table_line Python = marked (codes "#") (codes "# ")
table_line C = marked (codes "//") (codes "// ")
table_line Css = None
table_line Html = None
table_line Haskell = marked (codes "--") (codes "-- ")
table_line Tex = marked (codes "%") (codes "% ")
table_line Lisp = marked (codes ";") (codes ";; ")
table_line Semicolon = marked (codes ";") (codes "; ")
table_line Ml = None
table_line Vim = marked (34 ∷ []) (34 ∷ 32 ∷ [])

-- the multi-line form of c and css, of html, and of ml
abbrev pub c_block : BlockForm
c_block = record {
  opener = codes "/*";
  middle = Some (codes " *");
  closer = codes "*/";
  last_line = codes " */";
  lead = codes " * ";
}

abbrev pub html_block : BlockForm
html_block = record { opener = codes "<!--"; middle = None; closer = codes "-->"; last_line = codes "-->"; lead = [] }

abbrev pub ml_block : BlockForm
ml_block = record {
  opener = codes "(*";
  middle = Some (codes " *");
  closer = codes "*)";
  last_line = codes " *)";
  lead = codes " * ";
}

-- the multi-line form of each style
abbrev pub table_block : TableStyle → Option BlockForm
table_block Python = None
table_block C = Some c_block
table_block Css = Some c_block
table_block Html = Some html_block
table_block Haskell = None
table_block Tex = None
table_block Lisp = None
table_block Semicolon = None
table_block Ml = Some ml_block
table_block Vim = None

-- the line that stays in front of comments in each style
abbrev pub table_declaration : TableStyle → Declaration
table_declaration Python = declarations.Encoding
table_declaration C = declarations.PhpTag
table_declaration Html = declarations.XmlDeclaration
table_declaration other = declarations.Nothing

-- the marks of each style, which are good; none has first lines or front matter
abbrev pub table_marks : TableStyle → CommentMarks
table_marks style = record {
  line = table_line style;
  block = table_block style;
  declaration = table_declaration style;
  first_lines = [];
  front_matter = None;
}

pub table_good : (style : TableStyle) → is_good (table_marks style) ≡ true
unfolding is_good first_mark_fault forms_fault prefix_fault punctuation_in place_of
table_good Python = refl
table_good C = refl
table_good Css = refl
table_good Html = refl
table_good Haskell = refl
table_good Tex = refl
table_good Lisp = refl
table_good Semicolon = refl
table_good Ml = refl
table_good Vim = refl

abbrev pub table_style : TableStyle → GoodStyle
table_style style = record { name = table_name style; marks = table_marks style; good = table_good style }

-- the punctuation of each style
abbrev pub table_punctuation : TableStyle → List ℕ
table_punctuation Python = codes "#"
table_punctuation C = codes "/*"
table_punctuation Css = codes "/*"
table_punctuation Html = codes "<!->"
table_punctuation Haskell = codes "-"
table_punctuation Tex = codes "%"
table_punctuation Lisp = codes ";"
table_punctuation Semicolon = codes ";"
table_punctuation Ml = codes "(*)"
table_punctuation Vim = 34 ∷ []

-- all styles
unfoldable pub table_styles : List TableStyle
table_styles = Python ∷ C ∷ Css ∷ Html ∷ Haskell ∷ Tex ∷ Lisp ∷ Semicolon ∷ Ml ∷ Vim ∷ []

abbrev pub all_styles : List GoodStyle
all_styles = map table_style table_styles

-- the style that has a name, if one has
abbrev pub style_named : List ℕ → Option GoodStyle
style_named name = find (λ style. bytes_eq (style_name style) name) all_styles
