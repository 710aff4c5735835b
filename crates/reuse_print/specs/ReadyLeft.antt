-- Whether ready styles are left for names without one.
use Rattle.std.specs.Prelude.{ℕ, Bool, false, not, ◌||◌, ◌==◌, List, length, Option, Result, Ok, Err}
use Rattle.reuse_style.specs.CommentFile.{comments_of}
use Rattle.reuse_style.specs.Marks.{GoodStyle}
use Rattle.reuse_style.specs.Rules.{CommentRules}
use Rattle.reuse_style.specs.StyleFile.{styles_of}
use Rattle.reuse_style.specs.declared.comments_refusal.CommentsRefusal.{CommentsRefusal}
use Rattle.reuse_style.specs.declared.style.Kind.{Kind}
use Rattle.reuse_style.specs.declared.style_refusal.StylesRefusal.{StylesRefusal}
use Rattle.reuse_ready.specs.Additions.{lines_added}
use Rattle.reuse_ready.specs.Needed.{additions_of}
use Rattle.reuse_ready.specs.declared.additions.StyleAdditions.{StyleAdditions}
use Rattle.reuse_ready.specs.declared.name_count.NameCount.{NameCount}
use Rattle.reuse_ready.specs.declared.own_lines.AddedLines.{AddedLines}
use Rattle.reuse_ready.specs.declared.own_lines.AdditionRefusal.{AdditionRefusal}

-- there are lines for one of a tree's own files
abbrev pub has_line : AddedLines → Bool
has_line added = not (length added.styles == 0) || not (length added.comments == 0)

abbrev pub is_any_line : Result AddedLines AdditionRefusal → Bool
is_any_line (Err refusal) = false
is_any_line (Ok added) = has_line added

-- lines come into these files beside comments, and beside what the file of styles says
abbrev pub comes_by : StyleAdditions → Option (List ℕ) → Option (List ℕ) → List GoodStyle
    → Result (List ℕ → Option Kind) StylesRefusal → Bool
comes_by additions styles comments own_comments (Err refusal) = false
comes_by additions styles comments own_comments (Ok own) =
    is_any_line (lines_added additions styles comments own own_comments)

-- the same by what the file of comments says
abbrev pub comes_with : StyleAdditions → Option (List ℕ) → Option (List ℕ) → Result CommentRules CommentsRefusal → Bool
comes_with additions styles comments (Err refusal) = false
comes_with additions styles comments (Ok own_comments) =
    comes_by additions styles comments own_comments.styles (styles_of own_comments.styles styles)

-- what the ready tables add for names brings lines into a tree's own files, where it has these: of styles, of comments
abbrev pub is_any_left : List NameCount → Option (List ℕ) → Option (List ℕ) → Bool
is_any_left rows styles comments = comes_with (additions_of rows) styles comments (comments_of comments)
