-- The marks of comments, their punctuation, and which marks are good: what is written between good marks is read back
-- (docs/RULES.md, "Marks").
use Rattle.std.specs.Prelude.{◌≡◌, ℕ, ◌+◌, Bool, true, false, not, ◌&&◌, ◌||◌, ◌==◌, nat_eq, List, [], ◌∷◌, ◌++◌}
use Rattle.std.specs.Prelude.{length, take, drop, flat_map, fold, Option, None, Some, is_none, unwrap_or}
use Rattle.std.specs.Prelude.{option_and_then, if◌then◌else◌}
use Rattle.std.specs.List.{starts_with, ends_with, list_all, list_any}
use Rattle.std.specs.Option.{option_map, option_map_or, option_or}
use Rattle.std.specs.Char.{is_ascii_graphic, is_ascii_punctuation}
use Rattle.std.specs.Str.{bytes_eq}
use Rattle.reuse_text.specs.Text.{is_empty}
use Rattle.reuse_style.specs.declared.marks.Declaration.{Declaration}
use Rattle.reuse_style.specs.declared.marks.MarksFault.{MarksFault}
use Rattle.reuse_style.specs.declared.marks.MarksFault.TheVariants.{NotPlain, Empty, EndsInSpace, Lead, BeginAlike}
use Rattle.reuse_style.specs.declared.marks.MarksFault.TheVariants.{CloserInOpener, LastLine, Middle}
use Rattle.reuse_style.specs.declared.marks.MarksFault.TheVariants.{FirstLines, FrontMatter}
use Rattle.reuse_style.specs.Search.{place_of, holds}

-- comments on single lines: what marks one, and what a tag is written after
pub record LineForm : Type 0 where
  pub marker : List ℕ
  pub lead : List ℕ

-- comments over several lines: what opens one, what stands before a content if anything does, what closes one in
-- reading and as the last line, and what a tag is written after
pub record BlockForm : Type 0 where
  pub opener : List ℕ
  pub middle : Option (List ℕ)
  pub closer : List ℕ
  pub last_line : List ℕ
  pub lead : List ℕ

-- front matter: the texts of its first and of its last line
pub record FrontMatterForm : Type 0 where
  pub first_line : List ℕ
  pub last_line : List ℕ

-- the comments of a style, on single lines and over several, and the prefix lines, which stay in front of them: a
-- declaration, lines with one of some beginnings, and front matter
pub record CommentMarks : Type 0 where
  pub line : Option LineForm
  pub block : Option BlockForm
  pub declaration : Declaration
  pub first_lines : List (List ℕ)
  pub front_matter : Option FrontMatterForm

-- the marks, of which some may be missing
abbrev pub marks_in : CommentMarks → List (Option (List ℕ))
marks_in marks =
    option_map (λ line. line.marker) marks.line
    ∷ option_map (λ block. block.opener) marks.block ∷ option_and_then (λ block. block.middle) marks.block
    ∷ option_map (λ block. block.closer) marks.block ∷ option_map (λ block. block.last_line) marks.block ∷ []

-- the signs so far, with one more byte where that is a sign: punctuation that isn't among them
abbrev pub with_sign : List ℕ → ℕ → List ℕ
with_sign signs b =
    if is_ascii_punctuation b && not (list_any (λ sign. sign == b) signs) then signs ++ b ∷ [] else signs

-- the punctuation: the bytes of the marks that are neither letters, digits nor spaces, each once
unfoldable pub punctuation_in : CommentMarks → List ℕ
punctuation_in marks = fold with_sign [] (flat_map (λ mark. unwrap_or mark []) (marks_in marks))

-- ---- good marks

-- ASCII that is printed, a space among it
abbrev pub is_plain : ℕ → Bool
is_plain b = is_ascii_graphic b || b == 32

-- what is wrong with a mark by itself
abbrev pub mark_fault : List ℕ → Option MarksFault
mark_fault mark =
    if not (list_all is_plain mark) then Some NotPlain
    else if is_empty mark then Some Empty
    else if ends_with nat_eq mark (32 ∷ []) then Some EndsInSpace
    else None

-- the first mark at fault, with what is wrong
unfoldable pub first_mark_fault : List (Option (List ℕ)) → Option MarksFault
first_mark_fault [] = None
first_mark_fault (mark ∷ marks) = option_or (option_and_then mark_fault mark) (first_mark_fault marks)

-- a space or punctuation
abbrev pub is_filling : List ℕ → ℕ → Bool
is_filling punct b = b == 32 || list_any (λ sign. sign == b) punct

-- a lead is a mark, and fillings behind it
abbrev pub is_lead : List ℕ → List ℕ → List ℕ → Bool
is_lead punct mark lead = starts_with nat_eq lead mark && list_all (is_filling punct) (drop (length mark) lead)

-- a last line is the closer, which stands nowhere before, behind fillings
abbrev pub closes : List ℕ → List ℕ → List ℕ → Bool
closes punct closer last_line =
    option_map_or (λ place. list_all (is_filling punct) (take place last_line)
    && place + length closer == length last_line) (place_of closer last_line) false

-- a middle is one byte of punctuation behind spaces
abbrev pub is_middle : List ℕ → Bool
is_middle [] = false
is_middle (b ∷ []) = is_ascii_punctuation b
is_middle (b ∷ c ∷ bytes) = b == 32 && is_middle (c ∷ bytes)

-- whether the comments of a form, if there is one, pass a test
abbrev pub if_line : (LineForm → Bool) → CommentMarks → Bool
if_line test marks = option_map_or test marks.line true

abbrev pub if_block : (BlockForm → Bool) → CommentMarks → Bool
if_block test marks = option_map_or test marks.block true

-- a tag is written behind the marker, or the middle
abbrev pub leads_follow : List ℕ → CommentMarks → Bool
leads_follow punct marks =
    if_line (λ line. is_lead punct line.marker line.lead) marks && if_block
    (λ block. is_lead punct (unwrap_or block.middle []) block.lead) marks

-- neither of marker and opener begins with the other
abbrev pub begin_apart : CommentMarks → Bool
begin_apart marks =
    if_line (λ line. if_block (λ block. not (starts_with nat_eq line.marker block.opener) && not
    (starts_with nat_eq block.opener line.marker)) marks) marks

-- what is wrong with marks beside each other
unfoldable pub forms_fault : List ℕ → CommentMarks → Option MarksFault
forms_fault punct marks =
    if not (leads_follow punct marks) then Some Lead
    else if not (begin_apart marks) then Some BeginAlike
    else if not (if_block (λ block. not (holds block.closer block.opener)) marks) then Some CloserInOpener
    else if not (if_block (λ block. closes punct block.closer block.last_line) marks) then Some LastLine
    else if not (if_block (λ block. option_map_or is_middle block.middle true) marks) then Some Middle
    else None

-- ---- good prefix lines

-- whether a text begins with one of some beginnings
abbrev pub begins_with_one : List (List ℕ) → List ℕ → Bool
begins_with_one beginnings text = list_any (λ beginning. starts_with nat_eq text beginning) beginnings

-- the beginnings of first lines are printed ASCII, and not empty
abbrev pub are_beginnings : List (List ℕ) → Bool
are_beginnings beginnings = list_all (λ beginning. list_all is_plain beginning && not (is_empty beginning)) beginnings

-- no comment that is written begins as a first line does
abbrev pub begin_unlike_first_lines : CommentMarks → Bool
begin_unlike_first_lines marks =
    if_line (λ line. not (begins_with_one marks.first_lines line.lead)) marks && if_block
    (λ block. not (begins_with_one marks.first_lines block.opener)) marks

-- the lines of front matter are marks, and its first line is no first line of the style, and opens no comment
abbrev pub is_front_matter : CommentMarks → FrontMatterForm → Bool
is_front_matter marks matter =
    is_none (mark_fault matter.first_line) && is_none (mark_fault matter.last_line) && not
    (begins_with_one marks.first_lines matter.first_line) && if_block
    (λ block. not (bytes_eq block.opener matter.first_line)) marks

-- what is wrong with prefix lines
unfoldable pub prefix_fault : CommentMarks → Option MarksFault
prefix_fault marks =
    if not (are_beginnings marks.first_lines && begin_unlike_first_lines marks) then Some FirstLines
    else if not (option_map_or (is_front_matter marks) marks.front_matter true) then Some FrontMatter
    else None

-- the first condition of good marks that marks don't keep
abbrev pub marks_fault : CommentMarks → Option MarksFault
marks_fault marks =
    option_or (first_mark_fault (marks_in marks))
    (option_or (forms_fault (punctuation_in marks) marks) (prefix_fault marks))

unfoldable pub is_good : CommentMarks → Bool
is_good marks = is_none (marks_fault marks)

-- a style: its name, and its marks, which are good
pub record GoodStyle : Type 0 where
  pub name : List ℕ
  pub marks : CommentMarks
  pub good : is_good marks ≡ true
